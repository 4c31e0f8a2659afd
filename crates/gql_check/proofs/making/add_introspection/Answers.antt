use Rattle.std.proofs.Common.{ap, sym, ◌∙◌}
use Rattle.std.proofs.lemmas.Result.{on_ok_weaker}
use Rattle.std.specs.Prelude.{◌≡◌}
use Rattle.gql_registry.specs.Registry.{registry_of}
use Rattle.gql_registry.specs.Additions.{all_made, introspection_steps}
use Rattle.gql_check.specs.Recorded.{possible_contents, telling_steps}
use Rattle.gql_check.specs.Recordings.{recorded_of}
use Rattle.gql_check.proofs.RegistrySteps.{none_made}
use Rattle.gql_check.proofs.making.add_introspection.Goals as goal

pub returns-then-builder : goal.returns-then-builder
returns-then-builder g c =
    let before = possible_contents (recorded_of c.args.builder.now) in
    c.requires ∙ sym (none_made before) ∙ ap (λ disabled. all_made before (telling_steps disabled)) (sym c.if-builder.true)

pub returns : goal.returns
returns g c =
    let before = possible_contents (recorded_of c.args.builder.now) in
    on_ok_weaker c.create_introspection_types.result
    (λ (e : registry_of c.create_introspection_types.new.self ≡ all_made (registry_of c.args.registry.now) introspection_steps).
    e ∙ ap (λ contents. all_made contents introspection_steps) c.requires ∙ ap (λ disabled. all_made before (telling_steps disabled)) (sym c.if-builder.false))
    c.create_introspection_types.ensures.made
