-- The possible types of an interface: section 3.7 of the GraphQL specification, October 2021.
use Rattle.std.specs.Prelude.{◌≡◌, List, [], ◌∷◌, Some, cond, flat_map}
use Rattle.std.specs.Option.{option_map_or}
use Rattle.gql_registry_meta.specs.Parts.{Text, at_text, is_among, Meta}
use Rattle.gql_registry_meta.specs.Parts as meta
use Rattle.gql_registry.specs.Registry.{Contents}
use Rattle.gql_dynamic_types.specs.Types.{InterfaceParts, interface_meta}
use Rattle.gql_dynamic.specs.SchemaTypes.{TypeParts, interface, object_of}
use Rattle.gql_check_code.specs.Definitions.{SchemaParts}
use Rattle.gql_check.specs.Recorded.{types_in}

-- the name of the type, where it is an object that declares the interface of this name
abbrev pub implementer : Text → TypeParts → List Text
implementer name type = option_map_or (λ object. cond (is_among name object.implements) (object.name ∷ []) []) (object_of type) []

-- the names of all such objects, in the order of registration
abbrev pub implementers : Text → SchemaParts → List Text
implementers name schema = flat_map (implementer name) (types_in schema)

-- an interface with these possible types
abbrev pub possible_among : List Text → Meta → Meta
possible_among names (meta.interface type) = meta.interface (record type { possible_types = names })
possible_among names type = type

-- Under the name of each registered interface stands what is registered for it, and its possible types are the objects
-- that implement it, each once.
abbrev pub KnowsImplementers : SchemaParts → Contents → Type 0
KnowsImplementers schema contents = (name : Text) (parts : InterfaceParts) → at_text name schema.types ≡ Some (interface parts)
    → at_text name contents.types ≡ Some (possible_among (implementers name schema) (interface_meta parts))
