use Rattle.std.proofs.Common.{◌≡◌, length}
use Rattle.gql_sdl_readback.specs.Descriptions.{has_three_quotes}
use Rattle.gql_sdl_text.proofs.descriptions.has_three_quotes.Given as goal

abbrev pub invariant-loop-more : goal.invariant-loop-more
invariant-loop-more l = has_three_quotes l.rest ≡ has_three_quotes l.text

abbrev pub decreases-loop-more : goal.decreases-loop-more
decreases-loop-more l = length l.rest
