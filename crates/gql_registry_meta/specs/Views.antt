-- What the values of the code stand for.
use Rattle.std.specs.Prelude.{List, map, string_bytes, Option, None}
use Rattle.std.specs.Borrow.{Bor}
use Rattle.std.specs.Option.{option_map, is_some}
use Rattle.std.specs.declared.string.String.{String}
use Rattle.std.specs.declared.vec.Vec.{Vec}
use Rattle.std.specs.declared.alloc.Global.{Global}
use Rattle.indexmap.specs.IndexMap.{IndexMap}
use Rattle.indexmap.specs.IndexSet.{IndexSet}
use Rattle.gql_text_values.specs.declared.const_value.ConstValue.{ConstValue}
use Rattle.gql_registry_meta.specs.Parts.{Text, Deprecated, not_deprecated, deprecated_for, Invocation, InputValue, Field, EnumValue, Directive}
use Rattle.gql_registry_meta.specs.Parts.{Meta, scalar, object, interface, union, enum, input_object}
use Rattle.gql_registry_meta.specs.declared.deprecation.Deprecation.{Deprecation}
use Rattle.gql_registry_meta.specs.declared.deprecation.Deprecation.TheVariants.{NoDeprecated, Deprecated as deprecated_variant}
use Rattle.gql_registry_meta.specs.declared.directive_invocation.MetaDirectiveInvocation.{MetaDirectiveInvocation}
use Rattle.gql_registry_meta.specs.declared.input_value.MetaInputValue.{MetaInputValue}
use Rattle.gql_registry_meta.specs.declared.field.MetaField.{MetaField}
use Rattle.gql_registry_meta.specs.declared.enum_value.MetaEnumValue.{MetaEnumValue}
use Rattle.gql_registry_meta.specs.declared.directive.MetaDirective.{MetaDirective}
use Rattle.gql_registry_meta.specs.declared.scalar_validator.ScalarValidator.{ScalarValidator}
use Rattle.gql_registry_meta.specs.declared.meta_type.MetaType.{MetaType}
use Rattle.gql_registry_meta.specs.declared.meta_type.MetaType.TheVariants as variant

-- the bytes of a text
abbrev pub text_of : String Global → Text
text_of s = string_bytes s

-- the texts of a list
abbrev pub texts_of : Vec (String Global) Global → List Text
texts_of v = map text_of v.items

-- the texts of a set, in the order in which they came
abbrev pub names_of : {S : Type 0} → IndexSet (String Global) S → List Text
names_of names = map text_of names.keys

-- the texts that are borrowed
abbrev pub texts_in : List (Bor Text) → List Text
texts_in texts = map (λ text. text.now) texts

-- the entries of a map, by a view of its values
abbrev pub entries_of : {X Y : Type 0} → (X → Y) → List (String Global × X) → List (Text × Y)
entries_of f es = map (λ e. (text_of e.0, f e.1)) es

-- whether a part is deprecated, and the reason where one is given
abbrev pub deprecation_of : Deprecation → Deprecated
deprecation_of NoDeprecated = not_deprecated
deprecation_of (deprecated_variant reason) = deprecated_for (option_map text_of reason)

-- the arguments of a use of a directive: a value is what it is
abbrev pub arguments_of : List (String Global × ConstValue) → List (Text × ConstValue)
arguments_of es = entries_of (λ value. value) es

-- the use of a directive
abbrev pub invocation_of : MetaDirectiveInvocation → Invocation
invocation_of i = record { name = text_of i.name; args = arguments_of i.args.entries }

-- the uses of directives, in the order in which they came
abbrev pub invocations_of : Vec MetaDirectiveInvocation Global → List Invocation
invocations_of v = map invocation_of v.items

-- an argument or an input field
abbrev pub input_value_of : MetaInputValue → InputValue
input_value_of v = record {
  name = text_of v.name;
  description = option_map text_of v.description;
  ty = text_of v.ty;
  deprecation = deprecation_of v.deprecation;
  default_value = option_map text_of v.default_value;
  visible = v.visible;
  inaccessible = v.inaccessible;
  tags = texts_of v.tags;
  is_secret = v.is_secret;
  directive_invocations = invocations_of v.directive_invocations;
}

-- the arguments or the input fields of a map, each under its name
abbrev pub inputs_in : {S : Type 0} → IndexMap (String Global) MetaInputValue S → List (Text × InputValue)
inputs_in inputs = entries_of input_value_of inputs.entries

-- a field of an object or an interface
abbrev pub field_of : MetaField → Field
field_of f = record {
  name = text_of f.name;
  description = option_map text_of f.description;
  args = inputs_in f.args;
  ty = text_of f.ty;
  deprecation = deprecation_of f.deprecation;
  cache_control = f.cache_control;
  external = f.external;
  requires_fields = option_map text_of f.requires_fields;
  provides = option_map text_of f.provides;
  visible = f.visible;
  shareable = f.shareable;
  inaccessible = f.inaccessible;
  tags = texts_of f.tags;
  override_from = option_map text_of f.override_from;
  directive_invocations = invocations_of f.directive_invocations;
  requires_scopes = texts_of f.requires_scopes;
}

-- the fields of a map, each under its name
abbrev pub fields_in : {S : Type 0} → IndexMap (String Global) MetaField S → List (Text × Field)
fields_in fields = entries_of field_of fields.entries

-- a value of an enum
abbrev pub enum_value_of : MetaEnumValue → EnumValue
enum_value_of v = record {
  name = text_of v.name;
  description = option_map text_of v.description;
  deprecation = deprecation_of v.deprecation;
  visible = v.visible;
  inaccessible = v.inaccessible;
  tags = texts_of v.tags;
  directive_invocations = invocations_of v.directive_invocations;
}

-- the values of an enum, each under its name
abbrev pub enum_values_in : {S : Type 0} → IndexMap (String Global) MetaEnumValue S → List (Text × EnumValue)
enum_values_in values = entries_of enum_value_of values.entries

-- the definition of a directive
abbrev pub directive_of : MetaDirective → Directive
directive_of d = record {
  name = text_of d.name;
  description = option_map text_of d.description;
  locations = d.locations.items;
  args = inputs_in d.args;
  is_repeatable = d.is_repeatable;
  visible = d.visible;
  composable = option_map text_of d.composable;
}

-- A type, without the function that says which values a scalar takes. A type that has a function in it takes two arguments
-- more, which belong to that function.
abbrev pub meta_of : {x g : _} → MetaType x g → Meta
meta_of (variant.Scalar name description is_valid visible inaccessible tags specified_by_url directive_invocations requires_scopes) = scalar (record {
  name = text_of name;
  description = option_map text_of description;
  is_validated = is_some is_valid;
  visible = visible;
  inaccessible = inaccessible;
  tags = texts_of tags;
  specified_by_url = option_map text_of specified_by_url;
  directive_invocations = invocations_of directive_invocations;
  requires_scopes = texts_of requires_scopes;
})
meta_of (variant.Object name description fields cache_control extends shareable resolvable keys visible inaccessible interface_object tags is_subscription directive_invocations requires_scopes) = object (record {
  name = text_of name;
  description = option_map text_of description;
  fields = fields_in fields;
  cache_control = cache_control;
  extends = extends;
  shareable = shareable;
  resolvable = resolvable;
  keys = option_map texts_of keys;
  visible = visible;
  inaccessible = inaccessible;
  interface_object = interface_object;
  tags = texts_of tags;
  is_subscription = is_subscription;
  directive_invocations = invocations_of directive_invocations;
  requires_scopes = texts_of requires_scopes;
})
meta_of (variant.Interface name description fields possible_types extends keys visible inaccessible tags directive_invocations requires_scopes) = interface (record {
  name = text_of name;
  description = option_map text_of description;
  fields = fields_in fields;
  possible_types = names_of possible_types;
  extends = extends;
  keys = option_map texts_of keys;
  visible = visible;
  inaccessible = inaccessible;
  tags = texts_of tags;
  directive_invocations = invocations_of directive_invocations;
  requires_scopes = texts_of requires_scopes;
})
meta_of (variant.Union name description possible_types visible inaccessible tags directive_invocations) = union (record {
  name = text_of name;
  description = option_map text_of description;
  possible_types = names_of possible_types;
  visible = visible;
  inaccessible = inaccessible;
  tags = texts_of tags;
  directive_invocations = invocations_of directive_invocations;
})
meta_of (variant.Enum name description enum_values visible inaccessible tags directive_invocations requires_scopes) = enum (record {
  name = text_of name;
  description = option_map text_of description;
  enum_values = enum_values_in enum_values;
  visible = visible;
  inaccessible = inaccessible;
  tags = texts_of tags;
  directive_invocations = invocations_of directive_invocations;
  requires_scopes = texts_of requires_scopes;
})
meta_of (variant.InputObject name description input_fields visible inaccessible tags oneof directive_invocations) = input_object (record {
  name = text_of name;
  description = option_map text_of description;
  input_fields = inputs_in input_fields;
  visible = visible;
  inaccessible = inaccessible;
  tags = texts_of tags;
  oneof = oneof;
  directive_invocations = invocations_of directive_invocations;
})

-- the validator of a scalar, as it is
abbrev pub validator_of : {x g : _} → MetaType x g → Option (ScalarValidator x g)
validator_of (variant.Scalar name description is_valid visible inaccessible tags specified_by_url directive_invocations requires_scopes) = is_valid
validator_of _ = None
