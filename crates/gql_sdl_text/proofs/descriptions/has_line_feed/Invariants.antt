use Rattle.std.proofs.Common.{◌≡◌, length}
use Rattle.gql_sdl_readback.specs.Descriptions.{has_line_feed}
use Rattle.gql_sdl_text.proofs.descriptions.has_line_feed.Given as goal

abbrev pub invariant-loop-first : goal.invariant-loop-first
invariant-loop-first l = has_line_feed l.rest ≡ has_line_feed l.text

abbrev pub decreases-loop-first : goal.decreases-loop-first
decreases-loop-first l = length l.rest
