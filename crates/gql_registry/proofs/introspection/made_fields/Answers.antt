use Rattle.std.proofs.Common.{List, [], ℕ, Bor, ap, sym, ◌∙◌, get_or, fold}
use Rattle.std.proofs.lemmas.List.{take_all}
use Rattle.std.proofs.lemmas.List.Sums.{fold_more}
use Rattle.gql_registry.specs.Tables.{with_row}
use Rattle.gql_registry.specs.declared.introspection.Row.TheVariants.{Plain}
use Rattle.gql_registry.proofs.Tables.{rows_put}
use Rattle.gql_registry.proofs.introspection.made_fields.Goals as goal

pub loop-row-preserved : goal.loop-row-preserved
loop-row-preserved c =
    let rows = c.args.rows.now in
    let i = c.loop-row.row-index in
    let none : Bor (List ℕ) = record { ref_ptr = (0, 0); now = [] } in
    c.in_ok-add_row.ensures ∙ ap (λ fields. with_row fields (get_or rows i (Plain none none))) c.loop-row.invariant
    ∙ sym (fold_more with_row [] rows i (Plain none none) c.loop-row-test.true)

pub returns : goal.returns
returns c =
    let rows = c.args.rows.now in
    c.loop-row.invariant ∙ ap (fold with_row []) (take_all c.loop-row.row-index rows c.loop-row-test.false) ∙ rows_put rows c.requires
