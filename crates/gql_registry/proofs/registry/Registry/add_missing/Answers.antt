use Rattle.std.proofs.Common.{ap, ◌∙◌, ◌≡◌, sym}
use Rattle.std.specs.Option.{option_map_or}
use Rattle.std.proofs.lemmas.Result.{on_ok_weaker}
use Rattle.gql_registry_meta.specs.Parts.{at_text, name_of}
use Rattle.gql_registry_meta.specs.Views.{meta_of}
use Rattle.gql_registry.specs.Registry.{registry_of, types_of, with_type}
use Rattle.gql_registry.specs.Additions.{with_missing}
use Rattle.gql_registry.proofs.Steps.{kept, new}
use Rattle.gql_registry.proofs.registry.Registry.add_missing.Goals as goal

pub returns-then-contains_key-clause-made : goal.returns-then-contains_key-clause-made
returns-then-contains_key-clause-made g c =
    let types = types_of c.args.self.now in
    let others = with_type types (meta_of c.args.ty) in
    let named : c.name.result.now ≡ name_of (meta_of c.args.ty) = c.name.ensures in
    ap (λ types. record (registry_of c.args.self.now) { types = types })
    (sym (ap (λ t. option_map_or (λ _. types) (at_text t types) others) (sym named)
    ∙ kept meta_of c.name.result.now c.args.self.now.types.entries others (sym c.contains_key.ensures ∙ c.if-contains_key.true)))

pub returns-clause-made : goal.returns-clause-made
returns-clause-made g c =
    let before = registry_of c.args.self.now in
    let types = types_of c.args.self.now in
    let others = with_type types (meta_of c.args.ty) in
    let named : c.name.result.now ≡ name_of (meta_of c.args.ty) = c.name.ensures in
    let put : with_missing types (meta_of c.args.ty) ≡ others =
    ap (λ t. option_map_or (λ _. types) (at_text t types) others) (sym named)
    ∙ new meta_of c.name.result.now c.args.self.now.types.entries others (sym c.contains_key.ensures ∙ c.if-contains_key.false) in
    on_ok_weaker c.put_type.result
    (λ (e : registry_of c.put_type.new.self ≡ record before { types = others }). e ∙ ap (λ types. record before { types = types }) (sym put))
    c.put_type.ensures.contents
