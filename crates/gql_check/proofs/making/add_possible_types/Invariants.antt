use Rattle.std.proofs.Common.{◌≡◌, map, flat_map}
use Rattle.gql_registry_meta.specs.Views.{text_of}
use Rattle.gql_registry.specs.Registry.{registry_of}
use Rattle.gql_registry.specs.Additions.{possible_type, all_made}
use Rattle.gql_dynamic_types.specs.TypeViews.{object_parts}
use Rattle.gql_dynamic.specs.SchemaViews.{type_parts}
use Rattle.gql_check.specs.Recorded.{possible_steps}
use Rattle.gql_check.proofs.making.add_possible_types.Given as goal

-- what is noted, with the types that are left, is all
abbrev pub invariant-loop-ty : goal.invariant-loop-ty
invariant-loop-ty g l =
    all_made (registry_of l.registry) (flat_map possible_steps (map type_parts l.ty-iterator))
    ≡ all_made (registry_of l.initial.registry) (flat_map possible_steps (map type_parts l.initial.ty-iterator))

-- what is noted of one object, with the interfaces that are left, is all of it
abbrev pub invariant-loop-interface : goal.invariant-loop-interface
invariant-loop-interface g l =
    all_made (registry_of l.registry) (map (λ interface. possible_type interface (object_parts l.object).name) (map text_of l.interface-iterator))
    ≡ all_made (registry_of l.initial.registry) (map (λ interface. possible_type interface (object_parts l.object).name) (map text_of l.initial.interface-iterator))
