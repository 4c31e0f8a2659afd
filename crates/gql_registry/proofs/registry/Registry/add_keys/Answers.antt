use Rattle.std.proofs.Common.{ap, ◌∙◌, ◌≡◌, sym}
use Rattle.std.proofs.lemmas.Result.{on_ok_weaker, on_err_weaker}
use Rattle.gql_registry_meta.specs.Views.{text_of, meta_of, entries_of}
use Rattle.gql_registry.specs.Changes.{with_key}
use Rattle.gql_registry.specs.Registry.{registry_of, types_of, changed_at}
use Rattle.gql_registry_meta.proofs.Entries.{written_back}
use Rattle.gql_registry.proofs.OwnNames.{types_written}
use Rattle.gql_registry.proofs.Steps.{changed, none_changed}
use Rattle.gql_registry.proofs.registry.Registry.add_keys.Goals as goal

pub returns-in-Some-clause-contents : goal.returns-in-Some-clause-contents
returns-in-Some-clause-contents g c =
    let before = registry_of c.args.self.now in
    let types = types_of c.args.self.now in
    let name = c.args.ty.now in
    let v = c.in-Some.ty.now in
    let w = c.add_key.new.ty in
    on_ok_weaker c.add_key.result
    (λ (more : meta_of w ≡ with_key (text_of c.in_ok-key.key) (meta_of v)).
    ap (λ types. record before { types = types })
    (changed name (with_key (text_of c.in_ok-key.key)) c.args.self.now.types.entries (c.get_mut.follows.lender w).entries v w c.in-Some.ensures.value (c.get_mut.follows.holds w).0 more
    ∙ ap (λ key. changed_at name (with_key key) types) c.in_ok-key.ensures.ok))
    c.add_key.ensures.key

pub returns-in-Some-clause-err : goal.returns-in-Some-clause-err
returns-in-Some-clause-err g c =
    let before = registry_of c.args.self.now in
    let v = c.in-Some.ty.now in
    let w = c.add_key.new.ty in
    on_err_weaker c.add_key.result
    (λ (same : meta_of w ≡ meta_of v).
    ap (λ types. record before { types = types })
    (written_back meta_of c.args.ty.now c.args.self.now.types.entries (c.get_mut.follows.lender w).entries v w c.in-Some.ensures.value (c.get_mut.follows.holds w).0 same))
    c.add_key.ensures.err

pub returns-in-None-clause-contents : goal.returns-in-None-clause-contents
returns-in-None-clause-contents g c =
    let before = registry_of c.args.self.now in
    let types = types_of c.args.self.now in
    let name = c.args.ty.now in
    ap (λ types. record before { types = types })
    (ap (λ m. entries_of meta_of m.entries) c.get_mut.follows.holds-at-none
    ∙ sym (none_changed name (with_key (text_of c.in_ok-key.key)) c.args.self.now.types.entries c.in-None.ensures.value)
    ∙ ap (λ key. changed_at name (with_key key) types) c.in_ok-key.ensures.ok)

pub invariant_of-self-clause-own_types : goal.invariant_of-self-clause-own_types
invariant_of-self-clause-own_types g c =
    let w = c.add_key.new.ty in
    types_written c.args.ty.now c.args.self.now.types.entries (c.get_mut.follows.lender w).entries c.in-Some.ty.now w c.in-Some.ensures.value (c.get_mut.follows.holds w).0
    c.add_key.ensures.name c.args.self.now.own_types
