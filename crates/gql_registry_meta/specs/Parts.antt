-- The parts of a schema, as plain data: a text is the list of its bytes, and a map is the list of its entries in order.
-- Sections 3.4 to 3.13 of the GraphQL specification, October 2021.
use Rattle.std.specs.Prelude.{ℕ, Bool, true, false, List, [], ◌∷◌, Option, None}
use Rattle.std.specs.List.{list_any}
use Rattle.std.specs.Map.{lookup}
use Rattle.std.specs.Str.{bytes_eq}
use Rattle.std.specs.Cmp.Lexicographic.{slice_cmp}
use Rattle.std.specs.BTreeMap.{insert_entry}
use Rattle.indexmap.specs.IndexMap as in_place
use Rattle.indexmap.specs.IndexSet.{insert_key}
use Rattle.std.specs.Ordering.{nat_cmp}
use Rattle.std.specs.declared.cmp.Ordering.{Ordering}
use Rattle.gql_text_values.specs.declared.const_value.ConstValue.{ConstValue}
use Rattle.gql_registry_meta.specs.declared.cache_control.CacheControl.{CacheControl}
use Rattle.gql_registry_meta.specs.declared.directive_location.DirectiveLocation.{DirectiveLocation}

-- a text, as the list of its bytes
abbrev pub Text : Type 0
Text = List ℕ

-- the order of names, byte by byte
abbrev pub text_cmp : Text → Text → Ordering
text_cmp = slice_cmp nat_cmp

-- the name is one of the names
abbrev pub is_among : Text → List Text → Bool
is_among name names = list_any (bytes_eq name) names

-- the list has no item
abbrev pub is_empty : {X : Type 0} → List X → Bool
is_empty [] = true
is_empty (x ∷ xs) = false

-- what entries have under a text
abbrev pub at_text : {X : Type 0} → Text → List (Text × X) → Option X
at_text text entries = lookup (bytes_eq text) entries

-- names with one more: it stays where it is among them, and a new one goes last
abbrev pub with_name : List Text → Text → List Text
with_name names name = insert_key bytes_eq names name

-- entries in the order in which they came, with a value under a name: an entry of that name is replaced at its place, and
-- a new one goes last
abbrev pub with_entry_in_place : {X : Type 0} → List (Text × X) → Text → X → List (Text × X)
with_entry_in_place entries name value = in_place.insert_entry bytes_eq entries name value

-- entries in the order of their names, with one more, which takes the place of one of its name
abbrev pub with_sorted_entry : {X : Type 0} → List (Text × X) → Text → X → List (Text × X)
with_sorted_entry entries name value = insert_entry text_cmp entries name value

-- whether a part is deprecated, and the reason where one is given
pub data Deprecated : Type 0 where
  not_deprecated : Deprecated
  deprecated_for : (reason : Option Text) → Deprecated

-- the part is deprecated, with a reason or without one
abbrev pub is_deprecated : Deprecated → Bool
is_deprecated not_deprecated = false
is_deprecated (deprecated_for reason) = true

-- the reason, where there is one
abbrev pub reason_of : Deprecated → Option Text
reason_of not_deprecated = None
reason_of (deprecated_for reason) = reason

-- the use of a directive, with its arguments in the order in which they are written: section 2.12
pub record Invocation : Type 0 where
  pub name : Text
  pub args : List (Text × ConstValue)

-- An argument or an input field: InputValueDefinition of section 3.6.1. `ty` and `default_value` are the texts of its type
-- and of its default, and `visible` is the rule that shows it.
pub record InputValue : Type 0 where
  pub name : Text
  pub description : Option Text
  pub ty : Text
  pub deprecation : Deprecated
  pub default_value : Option Text
  pub visible : Option ℕ
  pub inaccessible : Bool
  pub tags : List Text
  pub is_secret : Bool
  pub directive_invocations : List Invocation

-- A field of an object or an interface: FieldDefinition of section 3.6. `ty` is the text of its type, and `visible` the
-- rule that shows it.
pub record Field : Type 0 where
  pub name : Text
  pub description : Option Text
  pub args : List (Text × InputValue)
  pub ty : Text
  pub deprecation : Deprecated
  pub cache_control : CacheControl
  pub external : Bool
  pub requires_fields : Option Text
  pub provides : Option Text
  pub visible : Option ℕ
  pub shareable : Bool
  pub inaccessible : Bool
  pub tags : List Text
  pub override_from : Option Text
  pub directive_invocations : List Invocation
  pub requires_scopes : List Text

-- a value of an enum: EnumValueDefinition of section 3.9
pub record EnumValue : Type 0 where
  pub name : Text
  pub description : Option Text
  pub deprecation : Deprecated
  pub visible : Option ℕ
  pub inaccessible : Bool
  pub tags : List Text
  pub directive_invocations : List Invocation

-- The definition of a directive: DirectiveDefinition of section 3.13. `composable` is the URL under which other schemas
-- link to it.
pub record Directive : Type 0 where
  pub name : Text
  pub description : Option Text
  pub locations : List DirectiveLocation
  pub args : List (Text × InputValue)
  pub is_repeatable : Bool
  pub visible : Option ℕ
  pub composable : Option Text

-- ---- types

-- a scalar, section 3.5; `is_validated`: a function says which values it takes
pub record ScalarType : Type 0 where
  pub name : Text
  pub description : Option Text
  pub is_validated : Bool
  pub visible : Option ℕ
  pub inaccessible : Bool
  pub tags : List Text
  pub specified_by_url : Option Text
  pub directive_invocations : List Invocation
  pub requires_scopes : List Text

-- An object: section 3.6. `is_subscription`: it is the root of subscriptions. `extends`, `shareable`, `resolvable`, `keys`,
-- `inaccessible`, `interface_object` and `tags` are for federation, here and below.
pub record ObjectType : Type 0 where
  pub name : Text
  pub description : Option Text
  pub fields : List (Text × Field)
  pub cache_control : CacheControl
  pub extends : Bool
  pub shareable : Bool
  pub resolvable : Bool
  pub keys : Option (List Text)
  pub visible : Option ℕ
  pub inaccessible : Bool
  pub interface_object : Bool
  pub tags : List Text
  pub is_subscription : Bool
  pub directive_invocations : List Invocation
  pub requires_scopes : List Text

-- an interface, section 3.7, with the names of the objects that implement it
pub record InterfaceType : Type 0 where
  pub name : Text
  pub description : Option Text
  pub fields : List (Text × Field)
  pub possible_types : List Text
  pub extends : Bool
  pub keys : Option (List Text)
  pub visible : Option ℕ
  pub inaccessible : Bool
  pub tags : List Text
  pub directive_invocations : List Invocation
  pub requires_scopes : List Text

-- a union, section 3.8, with the names of its members
pub record UnionType : Type 0 where
  pub name : Text
  pub description : Option Text
  pub possible_types : List Text
  pub visible : Option ℕ
  pub inaccessible : Bool
  pub tags : List Text
  pub directive_invocations : List Invocation

-- an enum, section 3.9
pub record EnumType : Type 0 where
  pub name : Text
  pub description : Option Text
  pub enum_values : List (Text × EnumValue)
  pub visible : Option ℕ
  pub inaccessible : Bool
  pub tags : List Text
  pub directive_invocations : List Invocation
  pub requires_scopes : List Text

-- an input object, section 3.10; `oneof`: it takes exactly one of its fields
pub record InputObjectType : Type 0 where
  pub name : Text
  pub description : Option Text
  pub input_fields : List (Text × InputValue)
  pub visible : Option ℕ
  pub inaccessible : Bool
  pub tags : List Text
  pub oneof : Bool
  pub directive_invocations : List Invocation

-- a type of one of the six kinds: section 3.4
pub data Meta : Type 0 where
  scalar : ScalarType → Meta
  object : ObjectType → Meta
  interface : InterfaceType → Meta
  union : UnionType → Meta
  enum : EnumType → Meta
  input_object : InputObjectType → Meta

-- the name of a type
abbrev pub name_of : Meta → Text
name_of (scalar type) = type.name
name_of (object type) = type.name
name_of (interface type) = type.name
name_of (union type) = type.name
name_of (enum type) = type.name
name_of (input_object type) = type.name
