use Rattle.std.proofs.Common.{refl, rules, ◌≡◌, Some}
use Rattle.gql_registry_meta.specs.Parts.{at_text}
use Rattle.gql_registry_meta.specs.Views.{meta_of}
use Rattle.gql_registry.specs.Registry.{types_of}
use Rattle.gql_registry.specs.Created.{refusal_of, copied, not_created}
use Rattle.gql_registry.proofs.registry.Registry.create_fake_input_type.Goals as goal

pub returns-in-Ok-copy_at : goal.returns-in-Ok-copy_at
returns-in-Ok-copy_at g c =
    let copy = meta_of c.in-Ok-copy_at.copy in
    let found : at_text g.T.InputType.named (types_of c.create_type_info.new.registry) ≡ Some copy = search rules in
    copied copy c.in-Ok.ensures.created found refl

pub returns : goal.returns
returns g c = not_created (refusal_of c.in-Err.e) c.in-Err.ensures.created refl
