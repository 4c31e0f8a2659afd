-- What a builder has recorded, as plain data, and the part of a schema that is registered for it. A use of a directive
-- is an `Invocation` from the start. Sections 3.6 to 3.13 of the GraphQL specification, October 2021.
use Rattle.std.specs.Prelude.{Bool, false, List, [], Option, None, map}
use Rattle.std.specs.Option.{option_map}
use Rattle.gql_text_values.specs.declared.type_ref.TypeRef.{TypeRef}
use Rattle.gql_text_values.specs.declared.const_value.ConstValue.{ConstValue}
use Rattle.gql_text_values.specs.TypeRefs.{type_text}
use Rattle.gql_text_values.specs.ConstValues.{value_text}
use Rattle.gql_registry_meta.specs.Caching.{no_hint}
use Rattle.gql_registry_meta.specs.Parts.{Text, Deprecated, not_deprecated, Invocation, InputValue, Field, EnumValue, with_entry_in_place}

-- ---- values of enums: section 3.9

-- what is said of a value of an enum
pub record EnumItemParts : Type 0 where
  pub name : Text
  pub description : Option Text
  pub deprecation : Deprecated
  pub inaccessible : Bool
  pub tags : List Text
  pub directives : List Invocation

-- one of which nothing but the name is said
abbrev pub new_enum_item : Text → EnumItemParts
new_enum_item name = record {
  name = name;
  description = None;
  deprecation = not_deprecated;
  inaccessible = false;
  tags = [];
  directives = [];
}

-- what is registered for it
abbrev pub enum_item_meta : EnumItemParts → EnumValue
enum_item_meta item = record {
  name = item.name;
  description = item.description;
  deprecation = item.deprecation;
  visible = None;
  inaccessible = item.inaccessible;
  tags = item.tags;
  directive_invocations = item.directives;
}

-- ---- arguments and input fields: sections 3.6.1 and 3.10

-- what is said of an argument or an input field
pub record InputValueParts : Type 0 where
  pub name : Text
  pub ty : TypeRef
  pub default_value : Option ConstValue
  pub description : Option Text
  pub deprecation : Deprecated
  pub inaccessible : Bool
  pub tags : List Text
  pub directives : List Invocation

-- one of which nothing but the name and the type is said
abbrev pub new_input_value : Text → TypeRef → InputValueParts
new_input_value name ty = record {
  name = name;
  ty = ty;
  default_value = None;
  description = None;
  deprecation = not_deprecated;
  inaccessible = false;
  tags = [];
  directives = [];
}

-- what is registered for it: its type and its default are texts
abbrev pub input_value_meta : InputValueParts → InputValue
input_value_meta input = record {
  name = input.name;
  description = input.description;
  ty = type_text input.ty;
  deprecation = input.deprecation;
  default_value = option_map value_text input.default_value;
  visible = None;
  inaccessible = input.inaccessible;
  tags = input.tags;
  is_secret = false;
  directive_invocations = input.directives;
}

-- what is registered for the arguments, each under its name and in their order
abbrev pub arguments_meta : List (Text × InputValueParts) → List (Text × InputValue)
arguments_meta arguments = map (λ e. (e.0, input_value_meta e.1)) arguments

-- the arguments with one more, under its name
abbrev pub with_argument : List (Text × InputValueParts) → InputValueParts → List (Text × InputValueParts)
with_argument arguments argument = with_entry_in_place arguments argument.name argument

-- ---- fields of objects and interfaces: section 3.6

-- what is said of a field of an object or an interface
pub record FieldParts : Type 0 where
  pub name : Text
  pub ty : TypeRef
  pub arguments : List (Text × InputValueParts)
  pub description : Option Text
  pub deprecation : Deprecated
  pub external : Bool
  pub requires_fields : Option Text
  pub provides : Option Text
  pub shareable : Bool
  pub inaccessible : Bool
  pub tags : List Text
  pub override_from : Option Text
  pub directives : List Invocation

-- one of which nothing but the name and the type is said
abbrev pub new_field : Text → TypeRef → FieldParts
new_field name ty = record {
  name = name;
  ty = ty;
  arguments = [];
  description = None;
  deprecation = not_deprecated;
  external = false;
  requires_fields = None;
  provides = None;
  shareable = false;
  inaccessible = false;
  tags = [];
  override_from = None;
  directives = [];
}

-- what is registered for it
abbrev pub field_meta : FieldParts → Field
field_meta field = record {
  name = field.name;
  description = field.description;
  args = arguments_meta field.arguments;
  ty = type_text field.ty;
  deprecation = field.deprecation;
  cache_control = no_hint;
  external = field.external;
  requires_fields = field.requires_fields;
  provides = field.provides;
  visible = None;
  shareable = field.shareable;
  inaccessible = field.inaccessible;
  tags = field.tags;
  override_from = field.override_from;
  directive_invocations = field.directives;
  requires_scopes = [];
}

-- ---- fields of subscriptions: section 3.3.1

-- what is said of a field of a subscription
pub record SubscriptionFieldParts : Type 0 where
  pub name : Text
  pub ty : TypeRef
  pub arguments : List (Text × InputValueParts)
  pub description : Option Text
  pub deprecation : Deprecated

-- one of which nothing but the name and the type is said
abbrev pub new_subscription_field : Text → TypeRef → SubscriptionFieldParts
new_subscription_field name ty = record {
  name = name;
  ty = ty;
  arguments = [];
  description = None;
  deprecation = not_deprecated;
}

-- what is registered for it: a field of which no more is said
abbrev pub subscription_field_meta : SubscriptionFieldParts → Field
subscription_field_meta field = field_meta (record (new_field field.name field.ty) {
  arguments = field.arguments;
  description = field.description;
  deprecation = field.deprecation;
})
