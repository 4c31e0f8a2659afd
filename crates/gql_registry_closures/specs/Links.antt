-- What leads from the parts of a schema to its types: sections 3.3 to 3.13 of the GraphQL specification, October 2021.
use Rattle.std.specs.Prelude.{ℕ, Bool, not, if◌then◌else◌, List, [], ◌∷◌, ◌++◌, map, flat_map, Option, None}
use Rattle.std.specs.Option.{unwrap_or}
use Rattle.std.specs.Map.{values_of}
use Rattle.gql_text_values.specs.TypeRefs.{innermost}
use Rattle.gql_registry_meta.specs.Parts.{Text, InputValue, Field, Directive, Meta, scalar, object, interface, union, enum, input_object, is_empty}
use Rattle.gql_registry_meta.specs.TypeNames.{reference_read}

-- A way from a part of a schema to the type of this name, with the rules that show the parts on it: `outer` is that of the
-- field or of the definition of a directive, and `inner` that of the argument or of the input field.
pub record Link : Type 0 where
  pub outer : Option ℕ
  pub inner : Option ℕ
  pub name : Text

-- the way to a type that is named by itself, and is shown by no rule
abbrev pub plain_link : Text → Link
plain_link name = record { outer = None; inner = None; name = name }

-- the name within a type reference, which is written as a text: section 2.11
abbrev pub named_in : Text → Text
named_in ty = innermost (reference_read ty)

-- an argument or an input field leads to the type that its own type names; the first rule is that of the part it is in
abbrev pub input_link : Option ℕ → InputValue → Link
input_link outer input = record { outer = outer; inner = input.visible; name = named_in input.ty }

-- a field leads to the type that its type names, and by its arguments
abbrev pub field_links : Field → List Link
field_links field =
    record { outer = field.visible; inner = None; name = named_in field.ty }
    ∷ map (input_link field.visible) (values_of field.args)

-- A type leads by its fields, their arguments and its input fields, and to its possible types.
abbrev pub links_of : Meta → List Link
links_of (scalar type) = []
links_of (object type) = flat_map field_links (values_of type.fields)
links_of (interface type) = flat_map field_links (values_of type.fields) ++ map plain_link type.possible_types
links_of (union type) = map plain_link type.possible_types
links_of (enum type) = []
links_of (input_object type) = map (input_link None) (values_of type.input_fields)

-- ---- where one begins

-- the parts of a schema from which its types are reached; the roots are the names of section 3.3.1
pub record Parts : Type 0 where
  pub types : List (Text × Meta)
  pub directives : List (Text × Directive)
  pub roots : List Text

-- the keys by which other schemas refer to the type's objects
abbrev pub keys_in : Meta → List Text
keys_in (object type) = unwrap_or type.keys []
keys_in (interface type) = unwrap_or type.keys []
keys_in _ = []

-- the type is an object or an interface with a key
abbrev pub has_key : Meta → Bool
has_key type = not (is_empty (keys_in type))

-- the definition of a directive leads by its arguments
abbrev pub directive_links : Directive → List Link
directive_links directive = map (input_link directive.visible) (values_of directive.args)

-- a type with a key is named by itself
abbrev pub keyed_links : Text × Meta → List Link
keyed_links entry = if has_key entry.1 then plain_link entry.0 ∷ [] else []

-- The starts are the types of the arguments of directives, the roots, and the types with a key.
abbrev pub starts_of : Parts → List Link
starts_of parts =
    flat_map directive_links (values_of parts.directives)
    ++ (map plain_link parts.roots ++ flat_map keyed_links parts.types)
