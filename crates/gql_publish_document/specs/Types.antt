-- The types and directives that a document defines, as builders record them, and what is registered for them.
-- Sections 3.3 to 3.13 of the GraphQL specification, October 2021.
use Rattle.std.specs.Prelude.{Bool, false, cond, ◌&&◌, List, [], ◌∷◌, Option, Some, None, is_none, codes}
use Rattle.std.specs.List.{filter_map, find}
use Rattle.std.specs.Option.{option_map, option_map_or}
use Rattle.std.specs.Str.{bytes_eq}
use Rattle.gql_text.specs.declared.document.TypeHead.{TypeHead}
use Rattle.gql_text.specs.declared.document.DirectiveDef.{DirectiveDef}
use Rattle.gql_text.specs.declared.document.FieldDef.{FieldDef}
use Rattle.gql_text.specs.declared.document.InputDef.{InputDef}
use Rattle.gql_text.specs.declared.document.EnumValueDef.{EnumValueDef}
use Rattle.gql_text.specs.declared.document.Definition.{Definition}
use Rattle.gql_text.specs.declared.document.Definition.TheVariants as definition
use Rattle.gql_registry_meta.specs.Parts.{Text, Meta, Directive, is_empty}
use Rattle.gql_registry_meta.specs.Locations.{location_text}
use Rattle.gql_registry_meta.specs.declared.directive_location.DirectiveLocation.{DirectiveLocation}
use Rattle.gql_registry_meta.specs.declared.directive_location.DirectiveLocation.TheVariants as location
use Rattle.gql_parts.specs.Builders.{arguments_meta}
use Rattle.gql_dynamic_types.specs.Types.{new_scalar, new_object, new_interface, new_union, new_enum, new_input_object, new_subscription}
use Rattle.gql_dynamic.specs.SchemaTypes.{TypeParts, type_meta}
use Rattle.gql_dynamic.specs.SchemaTypes as built
use Rattle.gql_publish_document.specs.Uses.{url_in, has_one_of, invocations_in}
use Rattle.gql_publish_document.specs.Members.{inputs_parts, fields_parts, subscription_fields_parts, values_parts}

-- `scalar Upload` with neither a description nor a use: the scalar of uploaded files
abbrev pub is_upload : TypeHead → Bool
is_upload head = bytes_eq head.name (codes "Upload") && (is_none head.description && is_empty head.uses)

-- section 3.5
abbrev pub scalar_parts : TypeHead → TypeParts
scalar_parts head = built.scalar (record (new_scalar head.name) {
  description = head.description;
  specified_by_url = url_in head.uses;
  directives = invocations_in head.uses;
})

-- section 3.6
abbrev pub object_parts : TypeHead → (implements : List Text) → List FieldDef → TypeParts
object_parts head implements fields = built.object (record (new_object head.name) {
  description = head.description;
  fields = fields_parts fields;
  implements = implements;
  directives = invocations_in head.uses;
})

-- the `type` that is the subscription root: section 3.3.1
abbrev pub subscription_parts : TypeHead → List FieldDef → TypeParts
subscription_parts head fields = built.subscription (record (new_subscription head.name) {
  description = head.description;
  fields = subscription_fields_parts fields;
})

-- section 3.7
abbrev pub interface_parts : TypeHead → (implements : List Text) → List FieldDef → TypeParts
interface_parts head implements fields = built.interface (record (new_interface head.name) {
  description = head.description;
  fields = fields_parts fields;
  implements = implements;
  directives = invocations_in head.uses;
})

-- section 3.8
abbrev pub union_parts : TypeHead → (members : List Text) → TypeParts
union_parts head members = built.union (record (new_union head.name) {
  description = head.description;
  possible_types = members;
  directives = invocations_in head.uses;
})

-- section 3.9
abbrev pub enum_parts : TypeHead → List EnumValueDef → TypeParts
enum_parts head values = built.enum (record (new_enum head.name) {
  description = head.description;
  items = values_parts values;
  directives = invocations_in head.uses;
})

-- section 3.10
abbrev pub input_object_parts : TypeHead → List InputDef → TypeParts
input_object_parts head fields = built.input_object (record (new_input_object head.name) {
  description = head.description;
  fields = inputs_parts fields;
  oneof = has_one_of head.uses;
  directives = invocations_in head.uses;
})

-- whether this is the name of the subscription root
abbrev pub is_root : Option Text → Text → Bool
is_root subscription name = option_map_or (λ root. bytes_eq root name) subscription false

-- The type that a definition defines, where this is the name of the subscription root. A schema block and the definition
-- of a directive define none.
abbrev pub type_in : (subscription : Option Text) → Definition → Option TypeParts
type_in subscription (definition.SchemaBlock roots at) = None
type_in subscription (definition.Scalar head) = Some (cond (is_upload head) built.upload (scalar_parts head))
type_in subscription (definition.Object head implements fields) = Some (cond (is_root subscription head.name) (subscription_parts head fields) (object_parts head implements fields))
type_in subscription (definition.Interface head implements fields) = Some (interface_parts head implements fields)
type_in subscription (definition.Union head members) = Some (union_parts head members)
type_in subscription (definition.Enum head values) = Some (enum_parts head values)
type_in subscription (definition.Input head fields) = Some (input_object_parts head fields)
type_in subscription (definition.Directive directive) = None

-- the type that is registered for it
abbrev pub type_meta_of : (subscription : Option Text) → Definition → Option Meta
type_meta_of subscription d = option_map type_meta (type_in subscription d)

-- ---- directives: section 3.13

-- the locations of directives: DirectiveLocation
abbrev pub all_locations : List DirectiveLocation
all_locations = location.Query ∷ location.Mutation ∷ location.Subscription ∷ location.Field ∷ location.FragmentDefinition
    ∷ location.FragmentSpread ∷ location.InlineFragment ∷ location.VariableDefinition ∷ location.Schema ∷ location.Scalar
    ∷ location.Object ∷ location.FieldDefinition ∷ location.ArgumentDefinition ∷ location.Interface ∷ location.Union
    ∷ location.Enum ∷ location.EnumValue ∷ location.InputObject ∷ location.InputFieldDefinition ∷ []

-- the location that this word stands for
abbrev pub location_named : Text → Option DirectiveLocation
location_named word = find (λ place. bytes_eq word (location_text place)) all_locations

-- the definition of a directive, which every schema shows and no other one links to
abbrev pub directive_meta_of : DirectiveDef → Directive
directive_meta_of directive = record {
  name = directive.name;
  description = directive.description;
  locations = filter_map location_named directive.locations;
  args = arguments_meta (inputs_parts directive.args);
  is_repeatable = directive.repeatable;
  visible = None;
  composable = None;
}

-- the same, where a definition defines a directive
abbrev pub directive_in : Definition → Option Directive
directive_in (definition.Directive directive) = Some (directive_meta_of directive)
directive_in _ = None
