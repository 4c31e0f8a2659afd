-- What the builders of types of the code stand for, and what their refusals report.
use Rattle.std.specs.Prelude.{◌≡◌, true, List, Option}
use Rattle.std.specs.Option.{option_map, is_some}
use Rattle.gql_registry_meta.specs.Parts.{Text, is_among}
use Rattle.gql_registry_meta.specs.Views.{text_of, texts_of, names_of, invocations_of}
use Rattle.gql_registry_meta.specs.declared.scalar_validator.ScalarValidator.{ScalarValidator}
use Rattle.gql_parts.specs.BuilderViews.{inputs_built, items_built, fields_built, subscription_fields_built}
use Rattle.gql_dynamic_types.specs.Types.{ScalarParts, ObjectParts, InterfaceParts, UnionParts, EnumParts, InputObjectParts, SubscriptionParts}
use Rattle.gql_dynamic_types.specs.declared.error.BuildError.{BuildError}
use Rattle.gql_dynamic_types.specs.declared.error.BuildError.TheVariants.{AlreadyExists, OutOfMemory}
use Rattle.gql_dynamic_types.specs.declared.scalar.Scalar.{Scalar}
use Rattle.gql_dynamic_types.specs.declared.object.Object.{Object}
use Rattle.gql_dynamic_types.specs.declared.interface.Interface.{Interface}
use Rattle.gql_dynamic_types.specs.declared.union.Union.{Union}
use Rattle.gql_dynamic_types.specs.declared.enumeration.Enum.{Enum}
use Rattle.gql_dynamic_types.specs.declared.input_object.InputObject.{InputObject}
use Rattle.gql_dynamic_types.specs.declared.subscription.Subscription.{Subscription}

-- the error says that the name is among the names that are there, or that memory ran out
abbrev pub ReportsRepeated : Text → List Text → BuildError → Type 0
ReportsRepeated name names (AlreadyExists repeated) = (text_of repeated ≡ name) × (is_among name names ≡ true)
ReportsRepeated name names OutOfMemory = Unit {0}

-- What was said of a scalar. A scalar that has a function in it takes two arguments more, which belong to that function.
abbrev pub scalar_parts : {x g : _} → Scalar x g → ScalarParts
scalar_parts type = record {
  name = text_of type.name;
  description = option_map text_of type.description;
  is_validated = is_some type.is_valid;
  specified_by_url = option_map text_of type.specified_by_url;
  inaccessible = type.inaccessible;
  tags = texts_of type.tags;
  directives = invocations_of type.directives;
}

-- the validator of a scalar, as it is
abbrev pub scalar_validator : {x g : _} → Scalar x g → Option (ScalarValidator x g)
scalar_validator type = type.is_valid

-- what was said of an object
abbrev pub object_parts : Object → ObjectParts
object_parts type = record {
  name = text_of type.name;
  description = option_map text_of type.description;
  fields = fields_built type.fields;
  implements = names_of type.implements;
  keys = texts_of type.keys;
  extends = type.extends;
  shareable = type.shareable;
  resolvable = type.resolvable;
  inaccessible = type.inaccessible;
  interface_object = type.interface_object;
  tags = texts_of type.tags;
  directives = invocations_of type.directives;
}

-- what was said of an interface
abbrev pub interface_parts : Interface → InterfaceParts
interface_parts type = record {
  name = text_of type.name;
  description = option_map text_of type.description;
  fields = fields_built type.fields;
  implements = names_of type.implements;
  keys = texts_of type.keys;
  extends = type.extends;
  inaccessible = type.inaccessible;
  tags = texts_of type.tags;
  directives = invocations_of type.directives;
}

-- what was said of a union
abbrev pub union_parts : Union → UnionParts
union_parts type = record {
  name = text_of type.name;
  description = option_map text_of type.description;
  possible_types = names_of type.possible_types;
  inaccessible = type.inaccessible;
  tags = texts_of type.tags;
  directives = invocations_of type.directives;
}

-- what was said of an enum
abbrev pub enum_parts : Enum → EnumParts
enum_parts type = record {
  name = text_of type.name;
  description = option_map text_of type.description;
  items = items_built type.items;
  inaccessible = type.inaccessible;
  tags = texts_of type.tags;
  directives = invocations_of type.directives;
}

-- what was said of an input object
abbrev pub input_object_parts : InputObject → InputObjectParts
input_object_parts type = record {
  name = text_of type.name;
  description = option_map text_of type.description;
  fields = inputs_built type.fields;
  oneof = type.oneof;
  inaccessible = type.inaccessible;
  tags = texts_of type.tags;
  directives = invocations_of type.directives;
}

-- what was said of a subscription root
abbrev pub subscription_parts : Subscription → SubscriptionParts
subscription_parts type = record {
  name = text_of type.name;
  description = option_map text_of type.description;
  fields = subscription_fields_built type.fields;
}
