use Rattle.std.proofs.Common.{◌≡◌, ◌≤◌, length, ◌-◌}
use Rattle.gql_text_lexer.specs.Left.{left_at}
use Rattle.gql_text_lexer.proofs.lexer.next_token.Given as goal

abbrev pub invariant-pieces : goal.invariant-pieces
invariant-pieces l = (left_at l.text l.place ≡ left_at l.initial.text l.initial.place) × (l.place ≤ length l.text)

abbrev pub decreases-pieces : goal.decreases-pieces
decreases-pieces l = length l.text - l.place
