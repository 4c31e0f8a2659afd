-- Types as their builders have recorded them, and what the rules of a schema look at in them.
use Rattle.std.specs.Prelude.{not, List, Option, map, is_some}
use Rattle.gql_text_values.specs.TypeRefs.{reference}
use Rattle.gql_registry_meta.specs.Parts.{Text, is_empty}
use Rattle.gql_parts.specs.Builders.{InputValueParts, FieldParts, SubscriptionFieldParts}
use Rattle.gql_dynamic.specs.SchemaTypes.{TypeParts}
use Rattle.gql_dynamic.specs.SchemaTypes as built
use Rattle.gql_check_rules.specs.Schema.{Input, Field, Definition, Schema}
use Rattle.gql_check_rules.specs.Schema as rules

-- The types that are registered, each under its name and in the order in which they came, and the names of the roots.
pub record SchemaParts : Type 0 where
  pub types : List (Text × TypeParts)
  pub query : Text
  pub mutation : Option Text
  pub subscription : Option Text

-- entries, each with what its value stands for
abbrev pub each_of : {X Y : Type 0} → (X → Y) → List (Text × X) → List (Text × Y)
each_of view entries = map (λ entry. (entry.0, view entry.1)) entries

-- what the rules look at in an argument or an input field
abbrev pub checked_input_of : InputValueParts → Input
checked_input_of input = record { ty = reference input.ty; has_default = is_some input.default_value }

-- the same of all arguments of a field, or of all fields of an input object
abbrev pub checked_inputs_of : List (Text × InputValueParts) → List (Text × Input)
checked_inputs_of inputs = each_of checked_input_of inputs

-- what the rules look at in a field of an object or an interface
abbrev pub checked_field_of : FieldParts → Field
checked_field_of field = record { ty = reference field.ty; arguments = checked_inputs_of field.arguments }

-- the same of all fields of a type
abbrev pub checked_fields_of : List (Text × FieldParts) → List (Text × Field)
checked_fields_of fields = each_of checked_field_of fields

-- what the rules look at in a field of a subscription
abbrev pub checked_subscription_field_of : SubscriptionFieldParts → Field
checked_subscription_field_of field = record { ty = reference field.ty; arguments = checked_inputs_of field.arguments }

-- the same of all its fields
abbrev pub checked_subscription_fields_of : List (Text × SubscriptionFieldParts) → List (Text × Field)
checked_subscription_fields_of fields = each_of checked_subscription_field_of fields

-- What the rules look at in a type. An object with a key is an entity of a federated graph.
abbrev pub definition : TypeParts → Definition
definition (built.scalar type) = rules.scalar
definition (built.object type) = rules.object (checked_fields_of type.fields) type.implements (not (is_empty type.keys))
definition (built.input_object type) = rules.input_object (checked_inputs_of type.fields) type.oneof
definition (built.enum type) = rules.enum
definition (built.interface type) = rules.interface (checked_fields_of type.fields) type.implements
definition (built.union type) = rules.union type.possible_types
definition (built.subscription type) = rules.subscription (checked_subscription_fields_of type.fields)
definition built.upload = rules.upload

-- what the rules look at in all types, and the names of the roots
abbrev pub schema : SchemaParts → Schema
schema parts = record {
  types = each_of definition parts.types;
  query = parts.query;
  mutation = parts.mutation;
  subscription = parts.subscription;
}
