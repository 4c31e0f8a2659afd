-- Changes of one type of a registry.
use Rattle.std.specs.Prelude.{List, [], ◌∷◌, ◌++◌, Option, Some}
use Rattle.std.specs.Option.{unwrap_or}
use Rattle.gql_registry_meta.specs.Parts.{Text, Meta, scalar, object, interface, union, enum, input_object}

-- the keys with one more, the last
abbrev pub keys_with : Option (List Text) → Text → Option (List Text)
keys_with keys key = Some (unwrap_or keys [] ++ key ∷ [])

-- an object or an interface with a key more, the last; any other type as it is
abbrev pub with_key : Text → Meta → Meta
with_key key (object type) = object (record type { keys = keys_with type.keys key })
with_key key (interface type) = interface (record type { keys = keys_with type.keys key })
with_key key type = type

-- the type with this description, in the place of the one that it had: section 3.2
abbrev pub described : Text → Meta → Meta
described text (scalar type) = scalar (record type { description = Some text })
described text (object type) = object (record type { description = Some text })
described text (interface type) = interface (record type { description = Some text })
described text (union type) = union (record type { description = Some text })
described text (enum type) = enum (record type { description = Some text })
described text (input_object type) = input_object (record type { description = Some text })
