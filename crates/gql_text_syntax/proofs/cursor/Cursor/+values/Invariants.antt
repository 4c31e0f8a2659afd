use Rattle.std.proofs.Common.{◌≡◌, ◌+◌, ◌*◌, length}
use Rattle.gql_grammar.specs.Form.{many}
use Rattle.gql_grammar.proofs.Laws.{front}
use Rattle.gql_text_syntax.specs.Values.{entry, value_with, nested}
use Rattle.gql_text_syntax.proofs.cursor.Cursor.+values.Given as goal

abbrev pub decreases-nested : goal.decreases-nested
decreases-nested l = 7 * l.depth

abbrev pub decreases-value_at : goal.decreases-value_at
decreases-value_at l = 7 * l.depth + 2

abbrev pub decreases-entry : goal.decreases-entry
decreases-entry l = 7 * l.depth + 3

abbrev pub decreases-values : goal.decreases-values
decreases-values l = 7 * l.depth + 4

abbrev pub decreases-entries : goal.decreases-entries
decreases-entries l = 7 * l.depth + 4

abbrev pub decreases-bracketed_list : goal.decreases-bracketed_list
decreases-bracketed_list l = 7 * l.depth + 5

abbrev pub decreases-object : goal.decreases-object
decreases-object l = 7 * l.depth + 5

abbrev pub invariant-values-items : goal.invariant-values-items
invariant-values-items l = front l.found ((many (value_with (nested l.depth))).read l.self) ≡ (many (value_with (nested l.depth))).read l.initial.self

abbrev pub decreases-values-items : goal.decreases-values-items
decreases-values-items l = length l.self

abbrev pub invariant-entries-items : goal.invariant-entries-items
invariant-entries-items l = front l.found ((many (entry (value_with (nested l.depth)))).read l.self) ≡ (many (entry (value_with (nested l.depth)))).read l.initial.self

abbrev pub decreases-entries-items : goal.decreases-entries-items
decreases-entries-items l = length l.self

abbrev pub decreases-nest : goal.decreases-nest
decreases-nest l = 7 * l.depth + 6

abbrev pub decreases-no_leaf : goal.decreases-no_leaf
decreases-no_leaf l = 7 * l.depth + 1
