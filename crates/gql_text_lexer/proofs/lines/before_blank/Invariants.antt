use Rattle.std.proofs.Common.{◌≡◌, ◌≤◌, length, map, take}
use Rattle.gql_text_lexer.specs.Lines.{trim_end}
use Rattle.gql_text_lexer.proofs.lines.before_blank.Given as goal

abbrev pub invariant-loop-end : goal.invariant-loop-end
invariant-loop-end l = (l.end ≤ length l.lines) × (trim_end (map (λ r. r.now) (take l.end l.lines)) ≡ trim_end (map (λ r. r.now) l.lines))

abbrev pub decreases-loop-end : goal.decreases-loop-end
decreases-loop-end l = l.end
