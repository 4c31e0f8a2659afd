use Rattle.std.proofs.Common.{◌∙◌, sym}
use Rattle.std.proofs.lemmas.Result.{err_from_is_err_and}
use Rattle.gql_grammar.proofs.Laws.{goes_on, is_done}
use Rattle.gql_text_syntax.proofs.Loops.{ends}
use Rattle.gql_text_syntax.proofs.item.many.Goals as goal

pub items-smaller : goal.items-smaller
items-smaller g c = c.shortens.ensures _ _ _ c.in_ok-parse.ensures

pub items-preserved : goal.items-preserved
items-preserved g c = rw c.in_ok-push.ensures.ok (goes_on _ _ c.shortens.ensures c.items.found c.items.cursor _ _ _ (sym c.begins.ensures ∙ c.items-test.true) c.in_ok-parse.ensures c.items.invariant)

pub returns : goal.returns
returns g c = is_done _ _ c.shortens.ensures _ _ _ (sym c.begins.ensures ∙ c.items-test.false) c.items.invariant

pub returns-in_err-parse : goal.returns-in_err-parse
returns-in_err-parse g c =
    let p = err_from_is_err_and c.from_residual.result c.from_residual.ensures.1 in
    rw (p.1, p.2) (ends _ _ c.shortens.ensures c.in_err-parse.field-0.0 c.items.found c.items.cursor _ (sym c.begins.ensures ∙ c.items-test.true) c.in_err-parse.ensures c.items.invariant)
