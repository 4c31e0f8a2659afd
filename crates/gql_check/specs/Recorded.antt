-- What the builder of a schema has recorded, and the registry that is made of it. Section 3.3 of the GraphQL
-- specification, October 2021.
use Rattle.std.specs.Prelude.{Bool, true, false, List, [], Option, map, flat_map}
use Rattle.std.specs.Option.{option_map_or}
use Rattle.gql_registry_meta.specs.Parts.{Text, Directive}
use Rattle.gql_registry_meta.specs.declared.introspection_mode.IntrospectionMode.{IntrospectionMode}
use Rattle.gql_registry_meta.specs.declared.introspection_mode.IntrospectionMode.TheVariants.{Enabled, Disabled}
use Rattle.gql_registry.specs.Registry.{Contents, empty}
use Rattle.gql_registry.specs.Additions.{Step, directive, implementing_type, possible_type, all_made, system_steps, introspection_steps}
use Rattle.gql_dynamic_types.specs.Types.{ObjectParts, with_last}
use Rattle.gql_dynamic.specs.SchemaTypes.{TypeParts, type_name, object_of, type_meta, interfaces}
use Rattle.gql_check_code.specs.Definitions.{SchemaParts}

-- `schema`: the registered types and the names of the roots. `directives`: those that were added, in their order.
-- `is_disabled`: introspection was disabled.
pub record Recorded : Type 0 where
  pub schema : SchemaParts
  pub directives : List Directive
  pub is_disabled : Bool

-- nothing but the names of the roots
abbrev pub begun : Text → Option Text → Option Text → Recorded
begun query mutation subscription = record {
  schema = record { types = []; query = query; mutation = mutation; subscription = subscription };
  directives = [];
  is_disabled = false;
}

-- the types, in the order of registration
abbrev pub types_in : SchemaParts → List TypeParts
types_in schema = map (λ entry. entry.1) schema.types

-- the types with one more, which is the last
abbrev pub with_last_type : TypeParts → SchemaParts → SchemaParts
with_last_type type schema = record schema { types = with_last schema.types (type_name type) type }

-- ---- additions

-- whether a schema says what it has, as the registry's mode
abbrev pub mode : Bool → IntrospectionMode
mode true = Disabled
mode false = Enabled

-- a type is there with the interfaces that it implements
abbrev pub type_step : TypeParts → Step
type_step type = implementing_type (type_meta type) (interfaces type)

-- an object is a possible type of each interface that it implements
abbrev pub object_steps : ObjectParts → List Step
object_steps object = map (λ interface. possible_type interface object.name) object.implements

-- of the types, the objects are possible types
abbrev pub possible_steps : TypeParts → List Step
possible_steps type = option_map_or object_steps (object_of type) []

-- a schema says what it has, unless that is disabled
abbrev pub telling_steps : Bool → List Step
telling_steps true = []
telling_steps false = introspection_steps

-- ---- the registry, stage by stage

-- the roots and the mode, and nothing else
abbrev pub roots_alone : Recorded → Contents
roots_alone recorded = record empty {
  query = recorded.schema.query;
  mutation = recorded.schema.mutation;
  subscription = recorded.schema.subscription;
  introspection = mode recorded.is_disabled;
}

-- then the directives and scalars that every schema has
abbrev pub system_contents : Recorded → Contents
system_contents recorded = all_made (roots_alone recorded) system_steps

-- then the types
abbrev pub type_contents : Recorded → Contents
type_contents recorded = all_made (system_contents recorded) (map type_step (types_in recorded.schema))

-- then the added directives, each in the place of one of its name
abbrev pub directive_contents : Recorded → Contents
directive_contents recorded = all_made (type_contents recorded) (map directive recorded.directives)

-- then the possible types of the interfaces
abbrev pub possible_contents : Recorded → Contents
possible_contents recorded = all_made (directive_contents recorded) (flat_map possible_steps (types_in recorded.schema))

-- At last the introspection types, and the fields of the query root that lead to them. This is what the registry of the
-- schema holds.
abbrev pub schema_contents : Recorded → Contents
schema_contents recorded = all_made (possible_contents recorded) (telling_steps recorded.is_disabled)
