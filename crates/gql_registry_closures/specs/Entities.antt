-- Types to which other schemas of a federation refer.
use Rattle.std.specs.Prelude.{Bool, ◌&&◌, false, List}
use Rattle.std.specs.List.{list_any}
use Rattle.std.specs.Map.{values_of}
use Rattle.gql_registry_meta.specs.Parts.{Text, Meta, object, interface}
use Rattle.gql_registry_closures.specs.Links.{has_key}

-- An object that can be resolved, or an interface, with a key: other schemas of a federation refer to it.
abbrev pub is_entity : Meta → Bool
is_entity (object type) = type.resolvable && has_key (object type)
is_entity (interface type) = has_key (interface type)
is_entity _ = false

-- some type is an entity
abbrev pub has_entities : List (Text × Meta) → Bool
has_entities types = list_any is_entity (values_of types)
