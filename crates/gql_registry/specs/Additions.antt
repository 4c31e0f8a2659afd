-- What is added to a registry step by step.
use Rattle.std.specs.Prelude.{◌≡◌, ℕ, List, ◌++◌, map, fold, take}
use Rattle.std.specs.Option.{option_map_or}
use Rattle.gql_registry_meta.specs.Parts.{Text, at_text, Field, Directive, Meta, object, name_of, with_entry_in_place}
use Rattle.gql_registry.specs.Registry.{Contents, registry_of, changed_at, with_type, with_directive, with_all_implements, with_possible_type}
use Rattle.gql_registry.specs.System.{system_directives, system_scalars}
use Rattle.gql_registry.specs.Introspection.{introspection_types, query_fields}
use Rattle.gql_registry.specs.declared.registry.Registry.{Registry}

-- fields with one more: it takes the place of one of its name, and a new one goes last
abbrev pub with_field : List (Text × Field) → Field → List (Text × Field)
with_field fields field = with_entry_in_place fields field.name field

-- an object with a field more, and any other type as it is
abbrev pub object_with : Field → Meta → Meta
object_with field (object type) = object (record type { fields = with_field type.fields field })
object_with field type = type

-- the types, where the one under this name has a field more if it is an object
abbrev pub with_query_field : Text → List (Text × Meta) → Field → List (Text × Meta)
with_query_field query types field = changed_at query (object_with field) types

-- the types with another, where none stands under its name
abbrev pub with_missing : List (Text × Meta) → Meta → List (Text × Meta)
with_missing types type = option_map_or (λ _. types) (at_text (name_of type) types) (with_type types type)

-- One addition: a directive, in the place of one of its name; a type, where none of its name stands; a field of the
-- query root, where that is an object; a type that implements these interfaces, in the place of one of its name; a
-- possible type of the interface or union of that name.
pub data Step : Type 0 where
  directive : Directive → Step
  missing_type : Meta → Step
  query_field : Field → Step
  implementing_type : Meta → List Text → Step
  possible_type : (name possible : Text) → Step

-- the registry after one addition
abbrev pub made : Contents → Step → Contents
made before (directive added) = record before { directives = with_directive before.directives added }
made before (missing_type added) = record before { types = with_missing before.types added }
made before (query_field added) = record before { types = with_query_field before.query before.types added }
made before (implementing_type added interfaces) = record before {
  types = with_type before.types added;
  implements = with_all_implements (name_of added) before.implements interfaces;
}
made before (possible_type name possible) = record before { types = with_possible_type name before.types possible }

-- all of the steps in turn
unfoldable pub all_made : Contents → List Step → Contents
all_made before steps = fold made before steps

-- some first of the steps, and none of the others
abbrev pub IsPartlyMade : Contents → List Step → Contents → Type 0
IsPartlyMade before steps after = (count : ℕ) × (after ≡ all_made before (take count steps))

-- the registry after this addition
abbrev pub Makes : {x g : _} → Step → Registry x g → Registry x g → Type 0
Makes step old new = registry_of new ≡ made (registry_of old) step

-- the registry after all of these additions
abbrev pub MakesAll : {x g : _} → List Step → Registry x g → Registry x g → Type 0
MakesAll steps old new = registry_of new ≡ all_made (registry_of old) steps

-- the registry after some first of these additions
abbrev pub MakesSome : {x g : _} → List Step → Registry x g → Registry x g → Type 0
MakesSome steps old new = IsPartlyMade (registry_of old) steps (registry_of new)

-- what every schema has: the directives, and then the scalars
abbrev pub system_steps : List Step
system_steps = map directive system_directives ++ map missing_type system_scalars

-- what a schema has that describes itself: the types, and then the fields of the query root
abbrev pub introspection_steps : List Step
introspection_steps = map missing_type introspection_types ++ map query_field query_fields
