use Rattle.std.proofs.Common.{refl, rules, ◌≡◌, ◌≢◌, ap, Some}
use Rattle.gql_registry_meta.specs.Parts.{at_text}
use Rattle.gql_registry_meta.specs.Kinds.{kind_of}
use Rattle.gql_registry_meta.specs.Views.{meta_of, text_of}
use Rattle.gql_registry.specs.Registry.{types_of}
use Rattle.gql_registry.specs.Created.{kind_conflict, was_there, in_conflict}
use Rattle.std.specs.declared.result.Result.TheVariants.{Err}
use Rattle.gql_registry.proofs.creating.RegistryCreatesTypes.begin_type.Goals as goal

pub returns-then-eq : goal.returns-then-eq
returns-then-eq g c =
    let there = meta_of c.in-Some.there.now in
    let found : at_text c.args.name.now (types_of c.args.self.now) ≡ Some there = search rules in
    let same : kind_of there ≡ c.args.kind = search rules in
    was_there (there, found, same) refl refl

pub returns-in-Some : goal.returns-in-Some
returns-in-Some g c =
    let there = meta_of c.in-Some.there.now in
    let found : at_text c.args.name.now (types_of c.args.self.now) ≡ Some there = search rules in
    let other : c.type_id-kept.result ≢ c.args.kind = search rules in
    let named : text_of c.in_ok-name.name ≡ c.args.name.now = search rules in
    let kept : kind_of there ≡ c.type_id-kept.result = search rules in
    in_conflict c.type_id-kept.result (there, found, kept) other (ap (λ n. Err (kind_conflict n c.type_id-kept.result c.args.kind)) named) refl
