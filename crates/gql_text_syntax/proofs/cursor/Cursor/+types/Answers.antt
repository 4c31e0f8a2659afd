use Rattle.std.proofs.Common.{◌<◌, arith}
use Rattle.gql_text_syntax.proofs.Lawful.{bracketed_below}
use Rattle.gql_text_syntax.proofs.cursor.Cursor.+types.Goals as goal

pub bracketed_type-returns : goal.bracketed_type-returns
bracketed_type-returns t c = let lt : 0 < c.args.depth = omega arith in rw (bracketed_below c.args.depth lt) c.list_type.ensures
