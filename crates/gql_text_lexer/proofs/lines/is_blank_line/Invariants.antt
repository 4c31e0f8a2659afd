use Rattle.std.proofs.Common.{◌≡◌, length}
use Rattle.gql_text_lexer.specs.Lines.{is_blank_line}
use Rattle.gql_text_lexer.proofs.lines.is_blank_line.Given as goal

abbrev pub invariant-loop-first : goal.invariant-loop-first
invariant-loop-first l = is_blank_line l.rest ≡ is_blank_line l.line

abbrev pub decreases-loop-first : goal.decreases-loop-first
decreases-loop-first l = length l.rest
