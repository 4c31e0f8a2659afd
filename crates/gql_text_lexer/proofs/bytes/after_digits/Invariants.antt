use Rattle.std.proofs.Common.{◌≡◌, length}
use Rattle.gql_text_lexer.specs.Bytes.{is_digit}
use Rattle.gql_text_lexer.specs.Scan.{after_run}
use Rattle.gql_text_lexer.proofs.bytes.after_digits.Given as goal

abbrev pub invariant-loop-first : goal.invariant-loop-first
invariant-loop-first l = after_run is_digit l.rest ≡ after_run is_digit l.text

abbrev pub decreases-loop-first : goal.decreases-loop-first
decreases-loop-first l = length l.rest
