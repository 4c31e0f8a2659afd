use Rattle.std.proofs.Common.{◌≡◌, ◌++◌, map, take}
use Rattle.gql_text_lexer.specs.Lines.{joined}
use Rattle.gql_text_lexer.proofs.lines.push_joined.Given as goal

abbrev pub invariant-loop-line : goal.invariant-loop-line
invariant-loop-line l = l.out.items ≡ l.fn.out.items ++ joined (map (λ r. r.now) (take l.line-index l.lines))
