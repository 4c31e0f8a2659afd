use Rattle.std.proofs.Common.{ap, ◌∙◌, ◌≡◌, sym}
use Rattle.std.proofs.lemmas.Result.{on_ok_weaker, on_err_weaker}
use Rattle.gql_registry_meta.specs.Views.{meta_of, field_of, entries_of}
use Rattle.gql_registry.specs.Registry.{registry_of, types_of}
use Rattle.gql_registry.specs.Additions.{with_query_field, object_with}
use Rattle.gql_registry_meta.proofs.Entries.{written_back}
use Rattle.gql_registry.proofs.OwnNames.{types_written}
use Rattle.gql_registry.proofs.Steps.{changed, none_changed}
use Rattle.gql_registry.proofs.registry.Registry.add_query_field.Goals as goal

pub returns-in-Some-clause-made : goal.returns-in-Some-clause-made
returns-in-Some-clause-made g c =
    let before = registry_of c.args.self.now in
    let types = types_of c.args.self.now in
    let field = field_of c.args.field in
    let v = c.in-Some.ty.now in
    let w = c.add_field.new.ty in
    on_ok_weaker c.add_field.result
    (λ (more : meta_of w ≡ object_with field (meta_of v)).
    ap (λ types. record before { types = types })
    (changed c.as_str.result.now (object_with field) c.args.self.now.types.entries (c.get_mut.follows.lender w).entries v w c.in-Some.ensures.value (c.get_mut.follows.holds w).0 more
    ∙ ap (λ t. with_query_field t types field) c.as_str.ensures.value))
    c.add_field.ensures.field

pub returns-in-Some-clause-err : goal.returns-in-Some-clause-err
returns-in-Some-clause-err g c =
    let before = registry_of c.args.self.now in
    let v = c.in-Some.ty.now in
    let w = c.add_field.new.ty in
    on_err_weaker c.add_field.result
    (λ (same : meta_of w ≡ meta_of v).
    ap (λ types. record before { types = types })
    (written_back meta_of c.as_str.result.now c.args.self.now.types.entries (c.get_mut.follows.lender w).entries v w c.in-Some.ensures.value (c.get_mut.follows.holds w).0 same))
    c.add_field.ensures.err

pub returns-in-None-clause-made : goal.returns-in-None-clause-made
returns-in-None-clause-made g c =
    let before = registry_of c.args.self.now in
    let types = types_of c.args.self.now in
    let field = field_of c.args.field in
    ap (λ types. record before { types = types })
    (ap (λ m. entries_of meta_of m.entries) c.get_mut.follows.holds-at-none
    ∙ sym (none_changed c.as_str.result.now (object_with field) c.args.self.now.types.entries c.in-None.ensures.value)
    ∙ ap (λ t. with_query_field t types field) c.as_str.ensures.value)

pub invariant_of-self-clause-own_types : goal.invariant_of-self-clause-own_types
invariant_of-self-clause-own_types g c =
    let w = c.add_field.new.ty in
    types_written c.as_str.result.now c.args.self.now.types.entries (c.get_mut.follows.lender w).entries c.in-Some.ty.now w c.in-Some.ensures.value (c.get_mut.follows.holds w).0
    c.add_field.ensures.name c.args.self.now.own_types
