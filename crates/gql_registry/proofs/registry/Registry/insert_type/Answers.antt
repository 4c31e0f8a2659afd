use Rattle.std.proofs.Common.{ap, ◌∙◌, rules, ◌≡◌, string_bytes}
use Rattle.std.specs.Result.{OnErr}
use Rattle.std.specs.String.{string_cmp}
use Rattle.std.proofs.lemmas.Result.{on_ok_weaker}
use Rattle.std.specs.Option.{option_map}
use Rattle.std.specs.BTreeMap.{insert_entry}
use Rattle.gql_registry_meta.specs.Views.{meta_of, entries_of}
use Rattle.gql_registry_meta.specs.Parts.{at_text, name_of, text_cmp}
use Rattle.gql_registry.specs.Maps.{types_in}
use Rattle.gql_registry.specs.Registry.{types_of, registry_of}
use Rattle.gql_registry_meta.proofs.Entries.{sorted_at_text, entries_with_entry}
use Rattle.gql_registry.proofs.OwnNames.{types_after}
use Rattle.gql_registry.proofs.registry.Registry.insert_type.Goals as goal

pub returns-clause-before : goal.returns-clause-before
returns-clause-before g c =
    let same : string_bytes c.in_ok-name.name ≡ name_of (meta_of c.args.ty) = search rules in
    ap (option_map meta_of) c.in_ok-insert.ensures.old ∙ sorted_at_text meta_of (string_bytes c.in_ok-name.name) c.args.self.now.types.entries
    ∙ ap (λ t. at_text t (types_of c.args.self.now)) same

pub returns-clause-types : goal.returns-clause-types
returns-clause-types g c =
    let types = c.args.self.now.types.entries in
    let same : string_bytes c.in_ok-name.name ≡ name_of (meta_of c.args.ty) = search rules in
    ap (entries_of meta_of) c.in_ok-insert.ensures.entries ∙ entries_with_entry meta_of types c.in_ok-name.name c.args.ty
    ∙ ap (λ t. insert_entry text_cmp (entries_of meta_of types) t (meta_of c.args.ty)) same

pub returns-clause-contents : goal.returns-clause-contents
returns-clause-contents g c =
    let types = c.args.self.now.types.entries in
    let same : string_bytes c.in_ok-name.name ≡ name_of (meta_of c.args.ty) = search rules in
    ap (λ types. record (registry_of c.args.self.now) { types = types })
    (ap (entries_of meta_of) c.in_ok-insert.ensures.entries ∙ entries_with_entry meta_of types c.in_ok-name.name c.args.ty
    ∙ ap (λ t. insert_entry text_cmp (entries_of meta_of types) t (meta_of c.args.ty)) same)

pub invariant_of-self-clause-own_types : goal.invariant_of-self-clause-own_types
invariant_of-self-clause-own_types g c =
    let types = c.args.self.now.types in
    let same : string_bytes c.in_ok-name.name ≡ name_of (meta_of c.args.ty) = search rules in
    let kept : OnErr c.insert.result (types_in c.insert.new.self ≡ types_in types) = search rules in
    let put = on_ok_weaker c.insert.result
    (λ (e : c.insert.new.self.entries ≡ insert_entry string_cmp types.entries c.in_ok-name.name c.args.ty).
    ap (entries_of meta_of) e ∙ entries_with_entry meta_of types.entries c.in_ok-name.name c.args.ty
    ∙ ap (λ t. insert_entry text_cmp (types_in types) t (meta_of c.args.ty)) same)
    c.insert.ensures.entries in
    types_after c.insert.result (types_in types) (types_in c.insert.new.self) (meta_of c.args.ty) put kept c.args.self.now.own_types
