use Rattle.std.proofs.Common.{◌≡◌, ◌≤◌, ◌-◌, length, map, drop}
use Rattle.gql_text_lexer.specs.Lines.{trim_start}
use Rattle.gql_text_lexer.proofs.lines.leading_blank.Given as goal

abbrev pub invariant-loop-at : goal.invariant-loop-at
invariant-loop-at l = (l.at ≤ length l.lines) × (trim_start (map (λ r. r.now) (drop l.at l.lines)) ≡ trim_start (map (λ r. r.now) l.lines))

abbrev pub decreases-loop-at : goal.decreases-loop-at
decreases-loop-at l = length l.lines - l.at
