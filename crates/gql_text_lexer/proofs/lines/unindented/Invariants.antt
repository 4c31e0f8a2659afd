use Rattle.std.proofs.Common.{◌≡◌, ◌++◌, length, map}
use Rattle.gql_text_lexer.specs.Lines.{cut, unindented, lines}
use Rattle.gql_text_lexer.proofs.lines.unindented.Given as goal

abbrev pub invariant-lines : goal.invariant-lines
invariant-lines l = map (λ r. r.now) l.lines.items ++ map (cut l.indent) (lines l.rest) ≡ unindented (lines l.text)

abbrev pub decreases-lines : goal.decreases-lines
decreases-lines l = length l.rest
