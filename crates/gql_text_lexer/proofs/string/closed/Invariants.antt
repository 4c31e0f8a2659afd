use Rattle.std.proofs.Common.{◌≡◌, length}
use Rattle.gql_text_lexer.specs.Scan.{closed}
use Rattle.gql_text_lexer.proofs.string.closed.Given as goal

abbrev pub invariant-parts : goal.invariant-parts
invariant-parts l = closed l.block l.rest 0 ≡ closed l.block l.text 0

abbrev pub decreases-parts : goal.decreases-parts
decreases-parts l = length l.rest
