-- The names that a schema uses.
use Rattle.std.specs.Prelude.{◌≡◌, List, [], ◌∷◌, ◌++◌, map, flat_map}
use Rattle.std.specs.Map.{values_of}
use Rattle.std.specs.List.Sorted.{IsStrictlySortedBy}
use Rattle.gql_registry_meta.specs.Parts.{Text, text_cmp, is_among, InputValue, Field, EnumValue, Directive, Meta, scalar, object, interface, union, enum, input_object}

-- the names of arguments or of input fields
abbrev pub input_names : List (Text × InputValue) → List Text
input_names inputs = map (λ input. input.name) (values_of inputs)

-- the names of a field and of its arguments
abbrev pub field_names : Field → List Text
field_names field = field.name ∷ input_names field.args

-- the names of fields and of their arguments
abbrev pub fields_names : List (Text × Field) → List Text
fields_names fields = flat_map field_names (values_of fields)

-- the names of the values of an enum
abbrev pub value_names : List (Text × EnumValue) → List Text
value_names values = map (λ value. value.name) (values_of values)

-- the names of a type, of its fields and their arguments, of its values and of its input fields
abbrev pub type_names : Meta → List Text
type_names (scalar type) = type.name ∷ []
type_names (object type) = type.name ∷ fields_names type.fields
type_names (interface type) = type.name ∷ fields_names type.fields
type_names (union type) = type.name ∷ []
type_names (enum type) = type.name ∷ value_names type.enum_values
type_names (input_object type) = type.name ∷ input_names type.input_fields

-- the names of the definition of a directive and of its arguments
abbrev pub directive_names : Directive → List Text
directive_names directive = directive.name ∷ input_names directive.args

-- the names of the definitions of directives and of the types, with those of their parts
abbrev pub all_names : List (Text × Meta) → List (Text × Directive) → List Text
all_names types directives =
    flat_map directive_names (values_of directives) ++ flat_map type_names (values_of types)

-- The texts of the list, each once and in the order of names.
pub record ListsOnce (texts names : List Text) : Type 0 where
  pub ascending : IsStrictlySortedBy text_cmp names
  pub same : (text : Text) → is_among text names ≡ is_among text texts
