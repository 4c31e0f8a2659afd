-- A type of a schema, as its builder has recorded it, and what is registered for it. Section 3.4 of the GraphQL
-- specification, October 2021.
use Rattle.std.specs.Prelude.{Bool, true, false, List, [], Option, Some, None, codes}
use Rattle.gql_registry_meta.specs.Parts.{Text, Meta}
use Rattle.gql_dynamic_types.specs.Types.{ScalarParts, ObjectParts, InterfaceParts, UnionParts, EnumParts, InputObjectParts, SubscriptionParts}
use Rattle.gql_dynamic_types.specs.Types.{new_scalar, scalar_meta, object_meta, interface_meta, union_meta, enum_meta, input_object_meta, subscription_meta}

-- what is said of a type; `upload`: the scalar of uploaded files, of which nothing but the name is said
pub data TypeParts : Type 0 where
  scalar : ScalarParts → TypeParts
  object : ObjectParts → TypeParts
  input_object : InputObjectParts → TypeParts
  enum : EnumParts → TypeParts
  interface : InterfaceParts → TypeParts
  union : UnionParts → TypeParts
  subscription : SubscriptionParts → TypeParts
  upload : TypeParts

-- the name of a type
abbrev pub type_name : TypeParts → Text
type_name (scalar type) = type.name
type_name (object type) = type.name
type_name (input_object type) = type.name
type_name (enum type) = type.name
type_name (interface type) = type.name
type_name (union type) = type.name
type_name (subscription type) = type.name
type_name upload = codes "Upload"

-- ---- what is registered for a type

-- the type that is registered for it
abbrev pub type_meta : TypeParts → Meta
type_meta (scalar type) = scalar_meta type
type_meta (object type) = object_meta type
type_meta (input_object type) = input_object_meta type
type_meta (enum type) = enum_meta type
type_meta (interface type) = interface_meta type
type_meta (union type) = union_meta type
type_meta (subscription type) = subscription_meta type
type_meta upload = scalar_meta (new_scalar (codes "Upload"))

-- the names of the interfaces that it implements
abbrev pub interfaces : TypeParts → List Text
interfaces (object type) = type.implements
interfaces (interface type) = type.implements
interfaces _ = []

-- ---- kinds of types

-- it, where it is an object
abbrev pub object_of : TypeParts → Option ObjectParts
object_of (object type) = Some type
object_of _ = None

-- it, where it is an interface
abbrev pub interface_of : TypeParts → Option InterfaceParts
interface_of (interface type) = Some type
interface_of _ = None

-- it, where it is an input object
abbrev pub input_object_of : TypeParts → Option InputObjectParts
input_object_of (input_object type) = Some type
input_object_of _ = None

-- it, where it is a subscription root
abbrev pub subscription_of : TypeParts → Option SubscriptionParts
subscription_of (subscription type) = Some type
subscription_of _ = None

-- a field may have it: section 3.4.2
abbrev pub is_output : TypeParts → Bool
is_output (scalar type) = true
is_output (object type) = true
is_output (enum type) = true
is_output (interface type) = true
is_output (union type) = true
is_output (input_object type) = false
is_output (subscription type) = false
is_output upload = false

-- an argument may have it: section 3.4.2
abbrev pub is_input : TypeParts → Bool
is_input (scalar type) = true
is_input (input_object type) = true
is_input (enum type) = true
is_input upload = true
is_input (object type) = false
is_input (interface type) = false
is_input (union type) = false
is_input (subscription type) = false
