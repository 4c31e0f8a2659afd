use Rattle.std.proofs.Common.{◌≡◌, map}
use Rattle.std.specs.Map.{keys_of, values_of}
use Rattle.gql_registry.specs.Registry.{registry_of, types_of}
use Rattle.gql_registry.specs.Additions.{all_made}
use Rattle.gql_dynamic.specs.SchemaTypes.{type_name}
use Rattle.gql_dynamic.specs.SchemaViews.{type_parts}
use Rattle.gql_check.specs.Recorded.{type_step}
use Rattle.gql_check.proofs.Keys.{AreFree}
use Rattle.gql_check.proofs.making.add_types.Given as goal

-- the names of the types that are left are new, and what is registered, with these types, is all
abbrev pub invariant-loop-ty : goal.invariant-loop-ty
invariant-loop-ty g l = record {
  free : AreFree (map type_name (map type_parts (values_of l.ty-iterator))) (keys_of (types_of l.registry));
  all : all_made (registry_of l.registry) (map type_step (map type_parts (values_of l.ty-iterator)))
      ≡ all_made (registry_of l.initial.registry) (map type_step (map type_parts (values_of l.initial.ty-iterator)));
}
