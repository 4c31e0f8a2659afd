use Rattle.std.proofs.Common.{◌≡◌, length}
use Rattle.gql_grammar.specs.Form.{many}
use Rattle.gql_grammar.proofs.Laws.{front}
use Rattle.gql_text_syntax.proofs.item.many.Given as goal

abbrev pub invariant-items : goal.invariant-items
invariant-items g l = front l.found ((many g.T.Item.form).read l.cursor) ≡ (many g.T.Item.form).read l.initial.cursor

abbrev pub decreases-items : goal.decreases-items
decreases-items g l = length l.cursor
