use Rattle.std.proofs.Common.{◌≡◌, length}
use Rattle.gql_text_lexer.specs.Bytes.{in_line}
use Rattle.gql_text_lexer.specs.Scan.{after_run}
use Rattle.gql_text_lexer.proofs.bytes.after_line.Given as goal

abbrev pub invariant-loop-first : goal.invariant-loop-first
invariant-loop-first l = after_run in_line l.rest ≡ after_run in_line l.text

abbrev pub decreases-loop-first : goal.decreases-loop-first
decreases-loop-first l = length l.rest
