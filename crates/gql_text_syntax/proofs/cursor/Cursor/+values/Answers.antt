use Rattle.std.proofs.Common.{◌<◌, ◌∙◌, sym, ap, arith}
use Rattle.std.proofs.lemmas.Result.{err_from_is_err_and}
use Rattle.gql_grammar.specs.Form.{starts}
use Rattle.gql_grammar.proofs.Laws.{goes_on, is_done, shorter}
use Rattle.gql_text_syntax.proofs.Lawful.{value_at_is, nested_below, entry_lawful, entry_solid, entry_first}
use Rattle.gql_text_syntax.proofs.Loops.{ends}
use Rattle.gql_text_syntax.proofs.cursor.Cursor.+values.Goals as goal

pub values-items-smaller : goal.values-items-smaller
values-items-smaller t c =
    let v = value_at_is c.args.depth in
    shorter _ v.lawful.lawful v.solid _ _ _ c.in_ok-value_at.ensures

pub values-items-preserved : goal.values-items-preserved
values-items-preserved t c =
    let v = value_at_is c.args.depth in
    rw c.in_ok-push.ensures.ok (goes_on _ _ (shorter _ v.lawful.lawful v.solid) c.items.found c.items.self _ _ _ (ap (λ s. starts s c.items.self) v.first ∙ sym c.sees_value.ensures ∙ c.items-test.true) c.in_ok-value_at.ensures c.items.invariant)

pub values-returns : goal.values-returns
values-returns t c =
    let v = value_at_is c.args.depth in
    is_done _ _ (shorter _ v.lawful.lawful v.solid) _ _ _ (ap (λ s. starts s c.items.self) v.first ∙ sym c.sees_value.ensures ∙ c.items-test.false) c.items.invariant

pub values-returns-in_err-value_at : goal.values-returns-in_err-value_at
values-returns-in_err-value_at t c =
    let v = value_at_is c.args.depth in
    let p = err_from_is_err_and c.from_residual.result c.from_residual.ensures.1 in
    rw (p.1, p.2) (ends _ _ (shorter _ v.lawful.lawful v.solid) c.in_err-value_at.field-0.0 c.items.found c.items.self _ (ap (λ s. starts s c.items.self) v.first ∙ sym c.sees_value.ensures ∙ c.items-test.true) c.in_err-value_at.ensures c.items.invariant)

pub entries-items-smaller : goal.entries-items-smaller
entries-items-smaller t c =
    let v = entry_lawful _ (value_at_is c.args.depth) in
    shorter _ v.lawful (entry_solid _) _ _ _ c.in_ok-entry.ensures

pub entries-items-preserved : goal.entries-items-preserved
entries-items-preserved t c =
    let v = entry_lawful _ (value_at_is c.args.depth) in
    rw c.in_ok-push.ensures.ok (goes_on _ _ (shorter _ v.lawful (entry_solid _)) c.items.found c.items.self _ _ _ (ap (λ s. starts s c.items.self) (entry_first _) ∙ sym c.sees_name.ensures ∙ c.items-test.true) c.in_ok-entry.ensures c.items.invariant)

pub entries-returns : goal.entries-returns
entries-returns t c =
    let v = entry_lawful _ (value_at_is c.args.depth) in
    is_done _ _ (shorter _ v.lawful (entry_solid _)) _ _ _ (ap (λ s. starts s c.items.self) (entry_first _) ∙ sym c.sees_name.ensures ∙ c.items-test.false) c.items.invariant

pub entries-returns-in_err-entry : goal.entries-returns-in_err-entry
entries-returns-in_err-entry t c =
    let v = entry_lawful _ (value_at_is c.args.depth) in
    let p = err_from_is_err_and c.from_residual.result c.from_residual.ensures.1 in
    rw (p.1, p.2) (ends _ _ (shorter _ v.lawful (entry_solid _)) c.in_err-entry.field-0.0 c.items.found c.items.self _ (ap (λ s. starts s c.items.self) (entry_first _) ∙ sym c.sees_name.ensures ∙ c.items-test.true) c.in_err-entry.ensures c.items.invariant)

pub nested-returns : goal.nested-returns
nested-returns t c = let lt : 0 < c.args.depth = omega arith in rw (nested_below c.args.depth lt) c.nest.ensures
