use Rattle.std.proofs.Common.{refl, rules, ◌≡◌, ◌≢◌}
use Rattle.std.specs.declared.result.Result.TheVariants.{Err}
use Rattle.gql_registry_meta.specs.declared.introspection_mode.IntrospectionMode.TheVariants.{Disabled}
use Rattle.gql_registry.specs.Registry.{registry_of}
use Rattle.gql_registry.specs.Created.{answer_of, out_of_memory}
use Rattle.gql_merged.specs.QueryRoot.{undescribed, described, no_memory}
use Rattle.gql_merged.proofs.query_root.add_introspection.Goals as goal

pub returns-then-eq : goal.returns-then-eq
returns-then-eq g c =
    let off : (registry_of c.args.registry.now).introspection ≡ Disabled = search rules in
    undescribed off refl refl

pub returns-in_err-create_introspection_types : goal.returns-in_err-create_introspection_types
returns-in_err-create_introspection_types g c =
    let on : (registry_of c.args.registry.now).introspection ≢ Disabled = search rules in
    let out : answer_of c.from_residual.result ≡ Err out_of_memory = search rules in
    no_memory on out c.in_err-create_introspection_types.ensures.err

pub returns : goal.returns
returns g c =
    let on : (registry_of c.args.registry.now).introspection ≢ Disabled = search rules in
    described on refl c.in_ok-create_introspection_types.ensures.made
