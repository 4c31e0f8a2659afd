-- What the builders of the code stand for.
use Rattle.std.specs.Prelude.{List}
use Rattle.std.specs.Option.{option_map}
use Rattle.std.specs.declared.string.String.{String}
use Rattle.std.specs.declared.alloc.Global.{Global}
use Rattle.indexmap.specs.IndexMap.{IndexMap}
use Rattle.gql_registry_meta.specs.Parts.{Text, Invocation}
use Rattle.gql_registry_meta.specs.Views.{text_of, texts_of, entries_of, deprecation_of, invocation_of, invocations_of}
use Rattle.gql_parts.specs.Builders.{EnumItemParts, InputValueParts, FieldParts, SubscriptionFieldParts}
use Rattle.gql_parts.specs.declared.directive.Directive.{Directive}
use Rattle.gql_parts.specs.declared.enum_item.EnumItem.{EnumItem}
use Rattle.gql_parts.specs.declared.input_value.InputValue.{InputValue}
use Rattle.gql_parts.specs.declared.field.FieldBuilder.{FieldBuilder}
use Rattle.gql_parts.specs.declared.subscription_field.SubscriptionField.{SubscriptionField}

-- the use of a directive
abbrev pub directive_use : Directive → Invocation
directive_use directive = invocation_of directive.invocation

-- what was said of a value of an enum
abbrev pub enum_item_parts : EnumItem → EnumItemParts
enum_item_parts item = record {
  name = text_of item.name;
  description = option_map text_of item.description;
  deprecation = deprecation_of item.deprecation;
  inaccessible = item.inaccessible;
  tags = texts_of item.tags;
  directives = invocations_of item.directives;
}

-- what was said of an argument or an input field
abbrev pub input_value_parts : InputValue → InputValueParts
input_value_parts input = record {
  name = text_of input.name;
  ty = input.ty;
  default_value = input.default_value;
  description = option_map text_of input.description;
  deprecation = deprecation_of input.deprecation;
  inaccessible = input.inaccessible;
  tags = texts_of input.tags;
  directives = invocations_of input.directives;
}

-- the same of each argument or input field of a map, under its name
abbrev pub inputs_built : {S : Type 0} → IndexMap (String Global) InputValue S → List (Text × InputValueParts)
inputs_built inputs = entries_of input_value_parts inputs.entries

-- the same of each value of an enum
abbrev pub items_built : {S : Type 0} → IndexMap (String Global) EnumItem S → List (Text × EnumItemParts)
items_built items = entries_of enum_item_parts items.entries

-- what was said of a field of an object or an interface
abbrev pub field_parts : {Owner : Type 0} → FieldBuilder Owner → FieldParts
field_parts field = record {
  name = text_of field.name;
  ty = field.ty;
  arguments = inputs_built field.arguments;
  description = option_map text_of field.description;
  deprecation = deprecation_of field.deprecation;
  external = field.external;
  requires_fields = option_map text_of field.requires_fields;
  provides = option_map text_of field.provides;
  shareable = field.shareable;
  inaccessible = field.inaccessible;
  tags = texts_of field.tags;
  override_from = option_map text_of field.override_from;
  directives = invocations_of field.directives;
}

-- the same of each field of a map, under its name
abbrev pub fields_built : {Owner S : Type 0} → IndexMap (String Global) (FieldBuilder Owner) S → List (Text × FieldParts)
fields_built fields = entries_of field_parts fields.entries

-- what was said of a field of a subscription
abbrev pub subscription_field_parts : SubscriptionField → SubscriptionFieldParts
subscription_field_parts field = record {
  name = text_of field.name;
  ty = field.ty;
  arguments = inputs_built field.arguments;
  description = option_map text_of field.description;
  deprecation = deprecation_of field.deprecation;
}

-- the same of each field of a map, under its name
abbrev pub subscription_fields_built : {S : Type 0} → IndexMap (String Global) SubscriptionField S → List (Text × SubscriptionFieldParts)
subscription_fields_built fields = entries_of subscription_field_parts fields.entries
