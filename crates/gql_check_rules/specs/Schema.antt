-- What the rules of a schema look at: its types in the order in which they were registered, each under its name, and the
-- names of the roots. A document and types that are built in code both count as such a list. Section 3 of the GraphQL
-- specification, October 2021.
use Rattle.std.specs.Prelude.{Bool, true, false, List, Option, Some, None, is_some, codes, ◌∷◌, [], ◌||◌}
use Rattle.gql_text_values.specs.TypeRefs.{Reference}
use Rattle.gql_registry_meta.specs.Parts.{Text, at_text, is_among}

-- an argument or an input field
pub record Input : Type 0 where
  pub ty : Reference
  pub has_default : Bool

-- a field, with its arguments in their order
pub record Field : Type 0 where
  pub ty : Reference
  pub arguments : List (Text × Input)

-- `implements`: the names of the interfaces that it declares. `has_key`: some of its fields make it an entity of a
-- federated graph. `one_of`: a value has exactly one of its fields. `upload`: the scalar of uploaded files.
pub data Definition : Type 0 where
  scalar : Definition
  object : (fields : List (Text × Field)) (implements : List Text) (has_key : Bool) → Definition
  interface : (fields : List (Text × Field)) (implements : List Text) → Definition
  union : (members : List Text) → Definition
  enum : Definition
  input_object : (fields : List (Text × Input)) (one_of : Bool) → Definition
  subscription : (fields : List (Text × Field)) → Definition
  upload : Definition

-- types by name, in the order of registration, and the names of the three roots
pub record Schema : Type 0 where
  pub types : List (Text × Definition)
  pub query : Text
  pub mutation : Option Text
  pub subscription : Option Text

-- ---- names

-- section 3.5
unfoldable pub is_system_scalar : Text → Bool
is_system_scalar name = is_among name (codes "Int" ∷ codes "Float" ∷ codes "String" ∷ codes "Boolean" ∷ codes "ID" ∷ [])

-- a type of the name is registered, or it is a system scalar
abbrev pub exists : Schema → Text → Bool
exists s name = is_system_scalar name || is_some (at_text name s.types)

-- ---- kinds of types

-- there is something, and it passes the test
abbrev pub passes : {X : Type 0} → (X → Bool) → Option X → Bool
passes test None = false
passes test (Some x) = test x

-- section 3.6
abbrev pub is_object : Definition → Bool
is_object (object fields implements has_key) = true
is_object _ = false

-- section 3.7
abbrev pub is_interface : Definition → Bool
is_interface (interface fields implements) = true
is_interface _ = false

-- section 3.10
abbrev pub is_input_object : Definition → Bool
is_input_object (input_object fields one_of) = true
is_input_object _ = false

-- the type of the subscription root: section 3.3.1
abbrev pub is_subscription : Definition → Bool
is_subscription (subscription fields) = true
is_subscription _ = false

-- an object with a key
abbrev pub is_entity : Definition → Bool
is_entity (object fields implements has_key) = has_key
is_entity _ = false

-- a field may have it: section 3.4.2, IsOutputType
abbrev pub is_output : Definition → Bool
is_output (input_object fields one_of) = false
is_output (subscription fields) = false
is_output upload = false
is_output _ = true

-- an argument may have it: section 3.4.2, IsInputType
abbrev pub is_input : Definition → Bool
is_input scalar = true
is_input enum = true
is_input (input_object fields one_of) = true
is_input upload = true
is_input _ = false

-- the name is that of a type that a field may have
abbrev pub names_output : Schema → Text → Bool
names_output s name = is_system_scalar name || passes is_output (at_text name s.types)

-- the name is that of a type that an argument or an input field may have
abbrev pub names_input : Schema → Text → Bool
names_input s name = is_system_scalar name || passes is_input (at_text name s.types)

-- ---- parts of types

-- the fields, where the type is an interface
abbrev pub interface_fields : Definition → Option (List (Text × Field))
interface_fields (interface fields implements) = Some fields
interface_fields _ = None

-- the name is that of an interface that the type declares
abbrev pub declares : Text → Definition → Bool
declares name (object fields implements has_key) = is_among name implements
declares name (interface fields implements) = is_among name implements
declares name _ = false

-- the name is that of a member of the union
abbrev pub has_member : Text → Definition → Bool
has_member name (union members) = is_among name members
has_member name _ = false
