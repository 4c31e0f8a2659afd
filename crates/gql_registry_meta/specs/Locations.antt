-- Locations of directives: DirectiveLocation of section 3.13 of the GraphQL specification, October 2021.
use Rattle.std.specs.Prelude.{codes}
use Rattle.gql_registry_meta.specs.Parts.{Text}
use Rattle.gql_registry_meta.specs.declared.directive_location.DirectiveLocation.{DirectiveLocation}
use Rattle.gql_registry_meta.specs.declared.directive_location.DirectiveLocation.TheVariants as location

-- the word for a location in a schema document
abbrev pub location_text : DirectiveLocation → Text
location_text location.Query = codes "QUERY"
location_text location.Mutation = codes "MUTATION"
location_text location.Subscription = codes "SUBSCRIPTION"
location_text location.Field = codes "FIELD"
location_text location.FragmentDefinition = codes "FRAGMENT_DEFINITION"
location_text location.FragmentSpread = codes "FRAGMENT_SPREAD"
location_text location.InlineFragment = codes "INLINE_FRAGMENT"
location_text location.VariableDefinition = codes "VARIABLE_DEFINITION"
location_text location.Schema = codes "SCHEMA"
location_text location.Scalar = codes "SCALAR"
location_text location.Object = codes "OBJECT"
location_text location.FieldDefinition = codes "FIELD_DEFINITION"
location_text location.ArgumentDefinition = codes "ARGUMENT_DEFINITION"
location_text location.Interface = codes "INTERFACE"
location_text location.Union = codes "UNION"
location_text location.Enum = codes "ENUM"
location_text location.EnumValue = codes "ENUM_VALUE"
location_text location.InputObject = codes "INPUT_OBJECT"
location_text location.InputFieldDefinition = codes "INPUT_FIELD_DEFINITION"
