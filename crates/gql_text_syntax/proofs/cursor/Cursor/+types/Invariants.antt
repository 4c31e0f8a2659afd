use Rattle.std.proofs.Common.{◌+◌, ◌*◌}
use Rattle.gql_text_syntax.proofs.cursor.Cursor.+types.Given as goal

abbrev pub decreases-bracketed_type : goal.decreases-bracketed_type
decreases-bracketed_type l = 4 * l.depth

abbrev pub decreases-plain_type : goal.decreases-plain_type
decreases-plain_type l = 4 * l.depth + 1

abbrev pub decreases-type_at : goal.decreases-type_at
decreases-type_at l = 4 * l.depth + 2

abbrev pub decreases-list_type : goal.decreases-list_type
decreases-list_type l = 4 * l.depth + 3
