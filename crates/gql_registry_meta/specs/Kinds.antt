-- Kinds of types, and what each kind is and has: section 3.4 of the GraphQL specification, October 2021.
use Rattle.std.specs.Prelude.{ℕ, Bool, true, false, ◌||◌, List, Option, Some, None, option_and_then, codes}
use Rattle.std.specs.List.{list_any}
use Rattle.std.specs.Str.{bytes_eq}
use Rattle.gql_registry_meta.specs.Parts.{Text, Field, Meta, scalar, object, interface, union, enum, input_object, name_of, at_text, is_among}
use Rattle.gql_registry_meta.specs.declared.type_id.MetaTypeId.{MetaTypeId}
use Rattle.gql_registry_meta.specs.declared.type_id.MetaTypeId.TheVariants as kind

-- the word for a kind: the name of its variant
abbrev pub kind_text : MetaTypeId → Text
kind_text kind.Scalar = codes "Scalar"
kind_text kind.Object = codes "Object"
kind_text kind.Interface = codes "Interface"
kind_text kind.Union = codes "Union"
kind_text kind.Enum = codes "Enum"
kind_text kind.InputObject = codes "InputObject"

-- the kind of a type
abbrev pub kind_of : Meta → MetaTypeId
kind_of (scalar type) = kind.Scalar
kind_of (object type) = kind.Object
kind_of (interface type) = kind.Interface
kind_of (union type) = kind.Union
kind_of (enum type) = kind.Enum
kind_of (input_object type) = kind.InputObject

-- a value of the type has fields to select
abbrev pub is_composite : MetaTypeId → Bool
is_composite kind.Object = true
is_composite kind.Interface = true
is_composite kind.Union = true
is_composite _ = false

-- a value of the type is one of an object type
abbrev pub is_abstract : MetaTypeId → Bool
is_abstract kind.Interface = true
is_abstract kind.Union = true
is_abstract _ = false

-- a value of the type has nothing to select
abbrev pub is_leaf : MetaTypeId → Bool
is_leaf kind.Scalar = true
is_leaf kind.Enum = true
is_leaf _ = false

-- IsInputType: section 3.4.2
abbrev pub is_input : MetaTypeId → Bool
is_input kind.Scalar = true
is_input kind.Enum = true
is_input kind.InputObject = true
is_input _ = false

-- the fields of an object or an interface
abbrev pub fields_of : Meta → Option (List (Text × Field))
fields_of (object type) = Some type.fields
fields_of (interface type) = Some type.fields
fields_of _ = None

-- the field under a key
abbrev pub field_under : Text → Meta → Option Field
field_under text type = option_and_then (at_text text) (fields_of type)

-- the possible types of an interface or a union
abbrev pub possible_types_of : Meta → Option (List Text)
possible_types_of (interface type) = Some type.possible_types
possible_types_of (union type) = Some type.possible_types
possible_types_of _ = None

-- an object of this name is a value of the type
abbrev pub is_possible_type : Text → Meta → Bool
is_possible_type text (object type) = bytes_eq type.name text
is_possible_type text (interface type) = is_among text type.possible_types
is_possible_type text (union type) = is_among text type.possible_types
is_possible_type _ _ = false

-- one of these names is that of a possible type
abbrev pub has_possible : Option (List Text) → Meta → Bool
has_possible None type = false
has_possible (Some names) type = list_any (λ name. is_possible_type name type) names

-- some object may be a value of both types
abbrev pub overlap_of : Bool → Bool → Meta → Meta → Bool
overlap_of true true a b = has_possible (possible_types_of a) b
overlap_of true false a b = is_possible_type (name_of b) a
overlap_of false true a b = is_possible_type (name_of a) b
overlap_of false false a b = false

-- the types have one name, or they overlap
abbrev pub type_overlap : Meta → Meta → Bool
type_overlap a b = bytes_eq (name_of a) (name_of b) || overlap_of (is_abstract (kind_of a)) (is_abstract (kind_of b)) a b

-- the rule that shows the type
abbrev pub visible_of : Meta → Option ℕ
visible_of (scalar type) = type.visible
visible_of (object type) = type.visible
visible_of (interface type) = type.visible
visible_of (union type) = type.visible
visible_of (enum type) = type.visible
visible_of (input_object type) = type.visible

-- a part without a rule is shown, and one with a rule where the rule holds
abbrev pub is_shown : (ℕ → Bool) → Option ℕ → Bool
is_shown holds None = true
is_shown holds (Some rule) = holds rule
