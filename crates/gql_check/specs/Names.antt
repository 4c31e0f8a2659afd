-- Names of registered types.
use Rattle.std.specs.Prelude.{◌≡◌, false, List, map}
use Rattle.std.specs.List.{AllByRecursion, IsDistinct}
use Rattle.std.specs.Map.{keys_of}
use Rattle.std.specs.Str.{bytes_eq}
use Rattle.gql_registry_meta.specs.Parts.{Text, is_among}
use Rattle.gql_dynamic.specs.SchemaTypes.{type_name}
use Rattle.gql_dynamic.specs.Errors.{TellsExisting}
use Rattle.gql_dynamic.specs.declared.schema_error.SchemaError.{SchemaError}
use Rattle.gql_check_code.specs.Definitions.{SchemaParts}

-- each type stands under its own name
abbrev pub HasOwnNames : SchemaParts → Type 0
HasOwnNames schema = map (λ entry. type_name entry.1) schema.types ≡ keys_of schema.types

-- no two types stand under one name
abbrev pub HasDifferentNames : SchemaParts → Type 0
HasDifferentNames schema = IsDistinct bytes_eq (keys_of schema.types)

-- no type stands under the name
abbrev pub IsNewName : Text → SchemaParts → Type 0
IsNewName name schema = is_among name (keys_of schema.types) ≡ false

-- The error reports that a type stands under the name, and one does, unless memory ran out.
abbrev pub TellsTaken : Text → SchemaParts → SchemaError → Type 0
TellsTaken name schema error = TellsExisting name (keys_of schema.types) error

-- none of the types has a name that is among these
abbrev pub HasNoneOf : List Text → SchemaParts → Type 0
HasNoneOf names schema = AllByRecursion (λ name. is_among name names ≡ false) (keys_of schema.types)
