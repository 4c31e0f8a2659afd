-- The parts of a type that a document defines, as a builder records them. What is registered for a part is the `_meta` of
-- its record. Sections 3.6 to 3.10 of the GraphQL specification, October 2021.
use Rattle.std.specs.Prelude.{List, map}
use Rattle.gql_text.specs.declared.document.FieldDef.{FieldDef}
use Rattle.gql_text.specs.declared.document.InputDef.{InputDef}
use Rattle.gql_text.specs.declared.document.EnumValueDef.{EnumValueDef}
use Rattle.gql_registry_meta.specs.Parts.{Text, InputValue, Field, EnumValue}
use Rattle.gql_parts.specs.Builders.{InputValueParts, new_input_value, input_value_meta, FieldParts, new_field, field_meta}
use Rattle.gql_parts.specs.Builders.{SubscriptionFieldParts, new_subscription_field, subscription_field_meta, EnumItemParts, new_enum_item, enum_item_meta}
use Rattle.gql_publish_document.specs.Uses.{deprecation_in, invocations_in}

-- an argument or a field of an input object: InputValueDefinition of section 3.6.1
abbrev pub input_parts : InputDef → InputValueParts
input_parts input = record (new_input_value input.name input.ty) {
  default_value = input.default;
  description = input.description;
  deprecation = deprecation_in input.uses;
  directives = invocations_in input.uses;
}

-- arguments of one owner, or the fields of an input object, each under its name
abbrev pub inputs_parts : List InputDef → List (Text × InputValueParts)
inputs_parts inputs = map (λ input. (input.name, input_parts input)) inputs

-- a field of an object or of an interface: section 3.6
abbrev pub field_parts : FieldDef → FieldParts
field_parts field = record (new_field field.name field.ty) {
  arguments = inputs_parts field.args;
  description = field.description;
  deprecation = deprecation_in field.uses;
  directives = invocations_in field.uses;
}

-- fields, each under its name
abbrev pub fields_parts : List FieldDef → List (Text × FieldParts)
fields_parts fields = map (λ field. (field.name, field_parts field)) fields

-- a field of the subscription root: section 3.3.1
abbrev pub subscription_field_parts : FieldDef → SubscriptionFieldParts
subscription_field_parts field = record (new_subscription_field field.name field.ty) {
  arguments = inputs_parts field.args;
  description = field.description;
  deprecation = deprecation_in field.uses;
}

-- fields of the subscription root, each under its name
abbrev pub subscription_fields_parts : List FieldDef → List (Text × SubscriptionFieldParts)
subscription_fields_parts fields = map (λ field. (field.name, subscription_field_parts field)) fields

-- a value of an enum: section 3.9
abbrev pub value_parts : EnumValueDef → EnumItemParts
value_parts value = record (new_enum_item value.name) {
  description = value.description;
  deprecation = deprecation_in value.uses;
  directives = invocations_in value.uses;
}

-- values of an enum, each under its name
abbrev pub values_parts : List EnumValueDef → List (Text × EnumItemParts)
values_parts values = map (λ value. (value.name, value_parts value)) values

-- ---- what is registered for them

-- an argument or a field of an input object
abbrev pub input_meta_of : InputDef → InputValue
input_meta_of input = input_value_meta (input_parts input)

-- a field of an object or of an interface
abbrev pub field_meta_of : FieldDef → Field
field_meta_of field = field_meta (field_parts field)

-- a field of the subscription root
abbrev pub subscription_field_meta_of : FieldDef → Field
subscription_field_meta_of field = subscription_field_meta (subscription_field_parts field)

-- a value of an enum
abbrev pub value_meta_of : EnumValueDef → EnumValue
value_meta_of value = enum_item_meta (value_parts value)
