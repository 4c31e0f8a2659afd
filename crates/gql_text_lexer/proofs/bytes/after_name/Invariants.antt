use Rattle.std.proofs.Common.{◌≡◌, length}
use Rattle.gql_text_lexer.specs.Bytes.{goes_on_name}
use Rattle.gql_text_lexer.specs.Scan.{after_run}
use Rattle.gql_text_lexer.proofs.bytes.after_name.Given as goal

abbrev pub invariant-loop-first : goal.invariant-loop-first
invariant-loop-first l = after_run goes_on_name l.rest ≡ after_run goes_on_name l.text

abbrev pub decreases-loop-first : goal.decreases-loop-first
decreases-loop-first l = length l.rest
