use Rattle.std.proofs.Common.{length}
use Rattle.gql_text_lexer.proofs.Blocks.{ReadSoFar}
use Rattle.gql_text_lexer.proofs.lines.common.Given as goal

abbrev pub invariant-lines : goal.invariant-lines
invariant-lines l = ReadSoFar l.best l.rest l.text

abbrev pub decreases-lines : goal.decreases-lines
decreases-lines l = length l.rest
