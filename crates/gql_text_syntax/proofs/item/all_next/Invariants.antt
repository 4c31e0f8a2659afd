use Rattle.std.proofs.Common.{◌≡◌, length}
use Rattle.gql_grammar.specs.Form.{many}
use Rattle.gql_grammar.proofs.Laws.{front}
use Rattle.gql_text_syntax.specs.Grammar.{next}
use Rattle.gql_text_syntax.proofs.item.all_next.Given as goal

abbrev pub invariant-items : goal.invariant-items
invariant-items g l = front l.found ((many (next l.sign g.T.Item.form)).read l.cursor) ≡ (many (next l.sign g.T.Item.form)).read l.initial.cursor

abbrev pub decreases-items : goal.decreases-items
decreases-items g l = length l.cursor
