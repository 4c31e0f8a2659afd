use Rattle.std.proofs.Common.{List, [], ℕ, Bor, ap, sym, ◌∙◌, get_or, fold}
use Rattle.std.proofs.lemmas.List.{take_all}
use Rattle.std.proofs.lemmas.List.Sums.{fold_more}
use Rattle.gql_registry.specs.Tables.{with_value}
use Rattle.gql_registry.proofs.Tables.{values_put}
use Rattle.gql_registry.proofs.plain.enum_values.Goals as goal

pub loop-name-preserved : goal.loop-name-preserved
loop-name-preserved c =
    let names = c.args.names.now in
    let i = c.loop-name.name-index in
    let none : Bor (List ℕ) = record { ref_ptr = (0, 0); now = [] } in
    c.in_ok-add_value.ensures ∙ ap (λ values. with_value values (get_or names i none).now) c.loop-name.invariant
    ∙ sym (fold_more (λ values name. with_value values name.now) [] names i none c.loop-name-test.true)

pub returns : goal.returns
returns c =
    let names = c.args.names.now in
    c.loop-name.invariant
    ∙ ap (fold (λ values name. with_value values name.now) []) (take_all c.loop-name.name-index names c.loop-name-test.false)
    ∙ values_put names c.requires
