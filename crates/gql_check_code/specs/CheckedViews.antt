-- What the types of the code stand for, and what the answers of the rules report.
use Rattle.std.specs.Prelude.{◌≡◌, Bool, List, Option, Some, None, Result, String}
use Rattle.std.specs.Option.{option_map}
use Rattle.std.specs.declared.alloc.Global.{Global}
use Rattle.gql_registry_meta.specs.Parts.{Text}
use Rattle.gql_registry_meta.specs.Views.{text_of, entries_of}
use Rattle.gql_parts.specs.BuilderViews.{input_value_parts, field_parts, subscription_field_parts}
use Rattle.gql_parts.specs.declared.input_value.InputValue.{InputValue}
use Rattle.gql_parts.specs.declared.field.FieldBuilder.{FieldBuilder}
use Rattle.gql_parts.specs.declared.subscription_field.SubscriptionField.{SubscriptionField}
use Rattle.gql_dynamic_types.specs.TypeViews.{interface_parts, input_object_parts}
use Rattle.gql_dynamic_types.specs.declared.input_object.InputObject.{InputObject}
use Rattle.gql_dynamic_types.specs.declared.interface.Interface.{Interface}
use Rattle.gql_dynamic.specs.Errors.{Tells}
use Rattle.gql_dynamic.specs.SchemaTypes as built
use Rattle.gql_dynamic.specs.SchemaViews.{type_parts}
use Rattle.gql_dynamic.specs.declared.schema_error.SchemaError.{SchemaError}
use Rattle.gql_dynamic.specs.declared.schema_type.SchemaType.{SchemaType}
use Rattle.gql_check_rules.specs.Faults.{Fault}
use Rattle.gql_check_rules.specs.Schema.{Input, Field, Definition, Schema}
use Rattle.gql_check_rules.specs.Tests.{fault_if, first_in}
use Rattle.gql_check_rules.specs.Rules.{declared_fault}
use Rattle.gql_check_rules.specs.Rules as rules
use Rattle.gql_check_code.specs.Definitions.{SchemaParts, checked_input_of, checked_field_of, checked_subscription_field_of, each_of, definition, schema}
use Rattle.gql_check_code.specs.declared.types.SchemaTypes.{SchemaTypes}
use Rattle.gql_check_code.specs.declared.implementation.Implementation.{Implementation}

-- ---- what the rules look at

-- an argument or an input field
abbrev pub checked_input : InputValue → Input
checked_input input = checked_input_of (input_value_parts input)

-- arguments or input fields, each under its name
abbrev pub checked_inputs : List (String Global × InputValue) → List (Text × Input)
checked_inputs inputs = each_of checked_input_of (entries_of input_value_parts inputs)

-- a field of an object or an interface
abbrev pub checked_field : {Owner : Type 0} → FieldBuilder Owner → Field
checked_field field = checked_field_of (field_parts field)

-- fields of one, each under its name
abbrev pub checked_fields : {Owner : Type 0} → List (String Global × FieldBuilder Owner) → List (Text × Field)
checked_fields fields = each_of checked_field_of (entries_of field_parts fields)

-- a field of a subscription
abbrev pub checked_subscription_field : SubscriptionField → Field
checked_subscription_field field = checked_subscription_field_of (subscription_field_parts field)

-- fields of one, each under its name
abbrev pub checked_subscription_fields : List (String Global × SubscriptionField) → List (Text × Field)
checked_subscription_fields fields = each_of checked_subscription_field_of (entries_of subscription_field_parts fields)

-- A type. A scalar may have a function in it, so what holds one takes two arguments more, which belong to that function.
abbrev pub definition_of : {x g : _} → SchemaType x g → Definition
definition_of type = definition (type_parts type)

-- types, each under its name
abbrev pub checked_definitions : {x g : _} → List (String Global × SchemaType x g) → List (Text × Definition)
checked_definitions types = each_of definition (entries_of type_parts types)

-- an interface
abbrev pub checked_interface : Interface → Definition
checked_interface interface = definition (built.interface (interface_parts interface))

-- an input object
abbrev pub checked_input_object : InputObject → Definition
checked_input_object object = definition (built.input_object (input_object_parts object))

-- the fields of an interface, each under its name
abbrev pub checked_interface_fields : Interface → List (Text × Field)
checked_interface_fields interface = each_of checked_field_of (interface_parts interface).fields

-- ---- schemas

-- the types that are registered, and the names of the roots
abbrev pub schema_parts : {x g : _} → SchemaTypes x g → SchemaParts
schema_parts types = record {
  types = entries_of type_parts types.types.entries;
  query = text_of types.query;
  mutation = option_map text_of types.mutation;
  subscription = option_map text_of types.subscription;
}

-- what the rules look at in them
abbrev pub schema_of : {x g : _} → SchemaTypes x g → Schema
schema_of types = schema (schema_parts types)

-- the types alone
abbrev pub checked_types : {x g : _} → SchemaTypes x g → List (Text × Definition)
checked_types types = (schema_of types).types

-- that a type implements an interface
abbrev pub implementation_of : Implementation → rules.Implementation
implementation_of implementation = record {
  kind = implementation.kind;
  ty = implementation.ty.now;
  interface = implementation.interface.now;
}

-- the first rule that an interface breaks by the interfaces that it declares
abbrev pub declared_fault_of : {x g : _} → SchemaTypes x g → (ty : Text) → Interface → Option Fault
declared_fault_of types ty interface = declared_fault (schema_of types) ty (checked_interface_fields interface) (interface_parts interface).implements

-- ---- answers

-- The answer reports the fault where the test holds, and else is Ok. It may be out of memory instead.
abbrev pub TellsIf : {T : Type 0} → Result T SchemaError → Bool → Fault → Type 0
TellsIf answer test fault = Tells answer (fault_if test fault)

-- The answer reports the first fault that a test finds in the members of a list, and is Ok where it finds none. It may be
-- out of memory instead.
abbrev pub TellsFirst : {T X : Type 0} → Result T SchemaError → (X → Option Fault) → List X → Type 0
TellsFirst answer test members = Tells answer (first_in test members)

-- What is left of a list has the first fault of all of it.
abbrev pub HasFirstOf : {X : Type 0} → (X → Option Fault) → (rest all : List X) → Type 0
HasFirstOf test rest all = first_in test rest ≡ first_in test all
