use Rattle.std.proofs.Common.{◌∙◌, sym, ap}
use Rattle.std.proofs.lemmas.Result.{err_from_is_err_and}
use Rattle.gql_grammar.specs.Form.{starts}
use Rattle.gql_grammar.proofs.Laws.{goes_on, is_done}
use Rattle.gql_text_syntax.proofs.Loops.{ends, next_shortens, next_first}
use Rattle.gql_text_syntax.proofs.item.all_next.Goals as goal

pub items-smaller : goal.items-smaller
items-smaller g c = next_shortens c.args.sign g.T.Item.form c.shortens.ensures _ _ _ c.in_ok-next.ensures

pub items-preserved : goal.items-preserved
items-preserved g c = rw c.in_ok-push.ensures.ok (goes_on _ _ (next_shortens c.args.sign g.T.Item.form c.shortens.ensures) c.items.found c.items.cursor _ _ _
    (ap (λ s. starts s c.items.cursor) (next_first c.args.sign g.T.Item.form) ∙ sym c.sees.ensures ∙ c.items-test.true) c.in_ok-next.ensures c.items.invariant)

pub returns : goal.returns
returns g c = is_done _ _ (next_shortens c.args.sign g.T.Item.form c.shortens.ensures) _ _ _
    (ap (λ s. starts s c.items.cursor) (next_first c.args.sign g.T.Item.form) ∙ sym c.sees.ensures ∙ c.items-test.false) c.items.invariant

pub returns-in_err-next : goal.returns-in_err-next
returns-in_err-next g c =
    let p = err_from_is_err_and c.from_residual.result c.from_residual.ensures.1 in
    rw (p.1, p.2) (ends _ _ (next_shortens c.args.sign g.T.Item.form c.shortens.ensures) c.in_err-next.field-0.0 c.items.found c.items.cursor _
    (ap (λ s. starts s c.items.cursor) (next_first c.args.sign g.T.Item.form) ∙ sym c.sees.ensures ∙ c.items-test.true) c.in_err-next.ensures c.items.invariant)
