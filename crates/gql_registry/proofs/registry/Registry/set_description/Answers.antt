use Rattle.std.proofs.Common.{ap, ◌∙◌, sym}
use Rattle.gql_registry_meta.specs.Views.{text_of, meta_of, entries_of}
use Rattle.gql_registry.specs.Changes.{described}
use Rattle.gql_registry.specs.Registry.{registry_of, types_of, changed_at}
use Rattle.gql_registry.proofs.OwnNames.{types_written}
use Rattle.gql_registry.proofs.Steps.{changed, none_changed}
use Rattle.gql_registry.proofs.registry.Registry.set_description.Goals as goal

pub returns-in-Some-clause-contents : goal.returns-in-Some-clause-contents
returns-in-Some-clause-contents g c =
    let before = registry_of c.args.self.now in
    let types = types_of c.args.self.now in
    let name = c.args.name.now in
    let w = c.describe.new.ty in
    ap (λ types. record before { types = types })
    (changed name (described (text_of c.in_ok-text.text)) c.args.self.now.types.entries (c.get_mut.follows.lender w).entries c.in-Some.ty.now w c.in-Some.ensures.value (c.get_mut.follows.holds w).0 c.describe.ensures.described
    ∙ ap (λ text. changed_at name (described text) types) c.in_ok-text.ensures.ok)

pub returns-in-None-clause-contents : goal.returns-in-None-clause-contents
returns-in-None-clause-contents g c =
    let before = registry_of c.args.self.now in
    let types = types_of c.args.self.now in
    let name = c.args.name.now in
    ap (λ types. record before { types = types })
    (ap (λ m. entries_of meta_of m.entries) c.get_mut.follows.holds-at-none
    ∙ sym (none_changed name (described (text_of c.in_ok-text.text)) c.args.self.now.types.entries c.in-None.ensures.value)
    ∙ ap (λ text. changed_at name (described text) types) c.in_ok-text.ensures.ok)

pub invariant_of-self-clause-own_types : goal.invariant_of-self-clause-own_types
invariant_of-self-clause-own_types g c =
    let w = c.describe.new.ty in
    types_written c.args.name.now c.args.self.now.types.entries (c.get_mut.follows.lender w).entries c.in-Some.ty.now w c.in-Some.ensures.value (c.get_mut.follows.holds w).0
    c.describe.ensures.name c.args.self.now.own_types
