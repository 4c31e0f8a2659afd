-- Parts of a schema that have a name and what is said of them here, and nothing else.
use Rattle.std.specs.Prelude.{true, false, List, [], Some, None, map}
use Rattle.gql_registry_meta.specs.Parts.{Text, not_deprecated, InputValue, Field, EnumValue, Directive, Meta, scalar, object, enum}
use Rattle.gql_registry_meta.specs.Caching.{no_hint}
use Rattle.gql_registry_meta.specs.declared.directive_location.DirectiveLocation.{DirectiveLocation}

-- an argument or an input field
abbrev pub plain_input_value : Text → Text → InputValue
plain_input_value name ty = record {
  name = name;
  description = None;
  ty = ty;
  deprecation = not_deprecated;
  default_value = None;
  visible = None;
  inaccessible = false;
  tags = [];
  is_secret = false;
  directive_invocations = [];
}

-- each argument under its name
abbrev pub arguments : List InputValue → List (Text × InputValue)
arguments values = map (λ value. (value.name, value)) values

-- a field without arguments
abbrev pub plain_field : Text → Text → Field
plain_field name ty = record {
  name = name;
  description = None;
  args = [];
  ty = ty;
  deprecation = not_deprecated;
  cache_control = no_hint;
  external = false;
  requires_fields = None;
  provides = None;
  visible = None;
  shareable = false;
  inaccessible = false;
  tags = [];
  override_from = None;
  directive_invocations = [];
  requires_scopes = [];
}

-- each field under its name
abbrev pub fields : List Field → List (Text × Field)
fields members = map (λ field. (field.name, field)) members

-- a value of an enum
abbrev pub plain_value : Text → EnumValue
plain_value name = record {
  name = name;
  description = None;
  deprecation = not_deprecated;
  visible = None;
  inaccessible = false;
  tags = [];
  directive_invocations = [];
}

-- each value under its name
abbrev pub values : List EnumValue → List (Text × EnumValue)
values members = map (λ value. (value.name, value)) members

-- a directive that is used once in a place, and that every schema shows
abbrev pub plain_directive : Text → Text → List DirectiveLocation → List InputValue → Directive
plain_directive name description locations args = record {
  name = name;
  description = Some description;
  locations = locations;
  args = arguments args;
  is_repeatable = false;
  visible = None;
  composable = None;
}

-- a scalar that takes the values which its name says
abbrev pub plain_scalar : Text → Meta
plain_scalar name = scalar (record {
  name = name;
  description = None;
  is_validated = false;
  visible = None;
  inaccessible = false;
  tags = [];
  specified_by_url = None;
  directive_invocations = [];
  requires_scopes = [];
})

-- an object of these fields, each under its name
abbrev pub plain_object : Text → List (Text × Field) → Meta
plain_object name members = object (record {
  name = name;
  description = None;
  fields = members;
  cache_control = no_hint;
  extends = false;
  shareable = false;
  resolvable = true;
  keys = None;
  visible = None;
  inaccessible = false;
  interface_object = false;
  tags = [];
  is_subscription = false;
  directive_invocations = [];
  requires_scopes = [];
})

-- an enum of these values, each under its name
abbrev pub plain_enum : Text → List (Text × EnumValue) → Meta
plain_enum name members = enum (record {
  name = name;
  description = None;
  enum_values = members;
  visible = None;
  inaccessible = false;
  tags = [];
  directive_invocations = [];
  requires_scopes = [];
})
