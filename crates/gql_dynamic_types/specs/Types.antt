-- What a builder of a type has recorded, as plain data, and the type that is registered for it.
-- Sections 3.5 to 3.10 of the GraphQL specification, October 2021.
use Rattle.std.specs.Prelude.{◌≡◌, Bool, true, false, List, [], ◌∷◌, ◌++◌, Option, Some, None, map}
use Rattle.std.specs.Map.{keys_of}
use Rattle.gql_registry_meta.specs.Caching.{no_hint}
use Rattle.gql_registry_meta.specs.Parts.{Text, Invocation, Meta, scalar, object, interface, union, enum, input_object, is_among, with_entry_in_place}
use Rattle.gql_parts.specs.Builders.{InputValueParts, input_value_meta, FieldParts, field_meta, SubscriptionFieldParts, subscription_field_meta, EnumItemParts, enum_item_meta}

-- ---- names and entries

-- entries with a new one
abbrev pub with_last : {X : Type 0} → List (Text × X) → Text → X → List (Text × X)
with_last entries name value = entries ++ (name, value) ∷ []

-- no entry stands under the name
abbrev pub IsNew : {X : Type 0} → Text → List (Text × X) → Type 0
IsNew name entries = is_among name (keys_of entries) ≡ false

-- what is registered for each of the values, under the same names and in the same order
abbrev pub each_meta : {X Y : Type 0} → (X → Y) → List (Text × X) → List (Text × Y)
each_meta part entries = map (λ e. (e.0, part e.1)) entries

-- the keys that are registered: none at all where there are none
abbrev pub keys_meta : List Text → Option (List Text)
keys_meta [] = None
keys_meta (key ∷ keys) = Some (key ∷ keys)

-- ---- scalars: section 3.5

-- what is said of a scalar; `is_validated`: a function says which values it takes
pub record ScalarParts : Type 0 where
  pub name : Text
  pub description : Option Text
  pub is_validated : Bool
  pub specified_by_url : Option Text
  pub inaccessible : Bool
  pub tags : List Text
  pub directives : List Invocation

-- one of which nothing but the name is said
abbrev pub new_scalar : Text → ScalarParts
new_scalar name = record {
  name = name;
  description = None;
  is_validated = false;
  specified_by_url = None;
  inaccessible = false;
  tags = [];
  directives = [];
}

-- what is registered for it
abbrev pub scalar_meta : ScalarParts → Meta
scalar_meta type = scalar (record {
  name = type.name;
  description = type.description;
  is_validated = type.is_validated;
  visible = None;
  inaccessible = type.inaccessible;
  tags = type.tags;
  specified_by_url = type.specified_by_url;
  directive_invocations = type.directives;
  requires_scopes = [];
})

-- ---- objects: section 3.6

-- what is said of an object; `implements`: the names of the interfaces that it implements
pub record ObjectParts : Type 0 where
  pub name : Text
  pub description : Option Text
  pub fields : List (Text × FieldParts)
  pub implements : List Text
  pub keys : List Text
  pub extends : Bool
  pub shareable : Bool
  pub resolvable : Bool
  pub inaccessible : Bool
  pub interface_object : Bool
  pub tags : List Text
  pub directives : List Invocation

-- one of which nothing but the name is said
abbrev pub new_object : Text → ObjectParts
new_object name = record {
  name = name;
  description = None;
  fields = [];
  implements = [];
  keys = [];
  extends = false;
  shareable = false;
  resolvable = true;
  inaccessible = false;
  interface_object = false;
  tags = [];
  directives = [];
}

-- what is registered for it
abbrev pub object_meta : ObjectParts → Meta
object_meta type = object (record {
  name = type.name;
  description = type.description;
  fields = each_meta field_meta type.fields;
  cache_control = no_hint;
  extends = type.extends;
  shareable = type.shareable;
  resolvable = type.resolvable;
  keys = keys_meta type.keys;
  visible = None;
  inaccessible = type.inaccessible;
  interface_object = type.interface_object;
  tags = type.tags;
  is_subscription = false;
  directive_invocations = type.directives;
  requires_scopes = [];
})

-- ---- interfaces: section 3.7

-- what is said of an interface; `implements`: the names of the interfaces that it implements
pub record InterfaceParts : Type 0 where
  pub name : Text
  pub description : Option Text
  pub fields : List (Text × FieldParts)
  pub implements : List Text
  pub keys : List Text
  pub extends : Bool
  pub inaccessible : Bool
  pub tags : List Text
  pub directives : List Invocation

-- one of which nothing but the name is said
abbrev pub new_interface : Text → InterfaceParts
new_interface name = record {
  name = name;
  description = None;
  fields = [];
  implements = [];
  keys = [];
  extends = false;
  inaccessible = false;
  tags = [];
  directives = [];
}

-- what is registered for it: its possible types are added apart
abbrev pub interface_meta : InterfaceParts → Meta
interface_meta type = interface (record {
  name = type.name;
  description = type.description;
  fields = each_meta field_meta type.fields;
  possible_types = [];
  extends = type.extends;
  keys = keys_meta type.keys;
  visible = None;
  inaccessible = type.inaccessible;
  tags = type.tags;
  directive_invocations = type.directives;
  requires_scopes = [];
})

-- ---- unions: section 3.8

-- what is said of a union; `possible_types`: the names of its members
pub record UnionParts : Type 0 where
  pub name : Text
  pub description : Option Text
  pub possible_types : List Text
  pub inaccessible : Bool
  pub tags : List Text
  pub directives : List Invocation

-- one of which nothing but the name is said
abbrev pub new_union : Text → UnionParts
new_union name = record {
  name = name;
  description = None;
  possible_types = [];
  inaccessible = false;
  tags = [];
  directives = [];
}

-- what is registered for it
abbrev pub union_meta : UnionParts → Meta
union_meta type = union (record {
  name = type.name;
  description = type.description;
  possible_types = type.possible_types;
  visible = None;
  inaccessible = type.inaccessible;
  tags = type.tags;
  directive_invocations = type.directives;
})

-- ---- enums: section 3.9

-- what is said of an enum
pub record EnumParts : Type 0 where
  pub name : Text
  pub description : Option Text
  pub items : List (Text × EnumItemParts)
  pub inaccessible : Bool
  pub tags : List Text
  pub directives : List Invocation

-- one of which nothing but the name is said
abbrev pub new_enum : Text → EnumParts
new_enum name = record {
  name = name;
  description = None;
  items = [];
  inaccessible = false;
  tags = [];
  directives = [];
}

-- the values with one more: one of its name is replaced at its place, and a new one goes last
abbrev pub with_item : List (Text × EnumItemParts) → EnumItemParts → List (Text × EnumItemParts)
with_item items item = with_entry_in_place items item.name item

-- what is registered for it
abbrev pub enum_meta : EnumParts → Meta
enum_meta type = enum (record {
  name = type.name;
  description = type.description;
  enum_values = each_meta enum_item_meta type.items;
  visible = None;
  inaccessible = type.inaccessible;
  tags = type.tags;
  directive_invocations = type.directives;
  requires_scopes = [];
})

-- ---- input objects: section 3.10

-- what is said of an input object; `oneof`: it has exactly one of its fields
pub record InputObjectParts : Type 0 where
  pub name : Text
  pub description : Option Text
  pub fields : List (Text × InputValueParts)
  pub oneof : Bool
  pub inaccessible : Bool
  pub tags : List Text
  pub directives : List Invocation

-- one of which nothing but the name is said
abbrev pub new_input_object : Text → InputObjectParts
new_input_object name = record {
  name = name;
  description = None;
  fields = [];
  oneof = false;
  inaccessible = false;
  tags = [];
  directives = [];
}

-- what is registered for it
abbrev pub input_object_meta : InputObjectParts → Meta
input_object_meta type = input_object (record {
  name = type.name;
  description = type.description;
  input_fields = each_meta input_value_meta type.fields;
  visible = None;
  inaccessible = type.inaccessible;
  tags = type.tags;
  oneof = type.oneof;
  directive_invocations = type.directives;
})

-- ---- subscriptions: section 3.3.1

-- what is said of a subscription root
pub record SubscriptionParts : Type 0 where
  pub name : Text
  pub description : Option Text
  pub fields : List (Text × SubscriptionFieldParts)

-- one of which nothing but the name is said
abbrev pub new_subscription : Text → SubscriptionParts
new_subscription name = record { name = name; description = None; fields = [] }

-- what is registered for it: an object that is marked as a subscription
abbrev pub subscription_meta : SubscriptionParts → Meta
subscription_meta type = object (record {
  name = type.name;
  description = type.description;
  fields = each_meta subscription_field_meta type.fields;
  cache_control = no_hint;
  extends = false;
  shareable = false;
  resolvable = true;
  keys = None;
  visible = None;
  inaccessible = false;
  interface_object = false;
  tags = [];
  is_subscription = true;
  directive_invocations = [];
  requires_scopes = [];
})
