-- The types and fields by which a schema describes itself: section 4.2 of the GraphQL specification, October 2021.
-- `includeDeprecated` on arguments and input fields, and `isOneOf`, are not part of that edition.
use Rattle.std.specs.Prelude.{List, [], ◌∷◌, Some, codes, map}
use Rattle.gql_registry_meta.specs.Parts.{Text, InputValue, Field, Meta}
use Rattle.gql_registry.specs.Plain.{plain_input_value, arguments, plain_field, fields, plain_value, values, plain_object, plain_enum}

-- `includeDeprecated: Boolean! = false`
abbrev pub include_deprecated : InputValue
include_deprecated = record (plain_input_value (codes "includeDeprecated") (codes "Boolean!")) { default_value = Some (codes "false") }

-- a field that lists members, deprecated ones where that is asked
abbrev pub members_field : Text → Text → Field
members_field name ty = record (plain_field name ty) { args = arguments (include_deprecated ∷ []) }

-- section 4.2.1
unfoldable pub schema_type : Meta
schema_type = plain_object (codes "__Schema") (fields (
    plain_field (codes "description") (codes "String!")
    ∷ plain_field (codes "types") (codes "[__Type!]!")
    ∷ plain_field (codes "queryType") (codes "__Type!")
    ∷ plain_field (codes "mutationType") (codes "__Type")
    ∷ plain_field (codes "subscriptionType") (codes "__Type")
    ∷ plain_field (codes "directives") (codes "[__Directive!]!")
    ∷ []))

-- section 4.2.2
unfoldable pub type_type : Meta
type_type = plain_object (codes "__Type") (fields (
    plain_field (codes "kind") (codes "__TypeKind!")
    ∷ plain_field (codes "name") (codes "String")
    ∷ plain_field (codes "description") (codes "String")
    ∷ members_field (codes "fields") (codes "[__Field!]")
    ∷ plain_field (codes "interfaces") (codes "[__Type!]")
    ∷ plain_field (codes "possibleTypes") (codes "[__Type!]")
    ∷ members_field (codes "enumValues") (codes "[__EnumValue!]")
    ∷ members_field (codes "inputFields") (codes "[__InputValue!]")
    ∷ plain_field (codes "ofType") (codes "__Type")
    ∷ plain_field (codes "specifiedByURL") (codes "String")
    ∷ plain_field (codes "isOneOf") (codes "Boolean")
    ∷ []))

-- section 4.2.3
unfoldable pub field_type : Meta
field_type = plain_object (codes "__Field") (fields (
    plain_field (codes "name") (codes "String!")
    ∷ plain_field (codes "description") (codes "String")
    ∷ members_field (codes "args") (codes "[__InputValue!]!")
    ∷ plain_field (codes "type") (codes "__Type!")
    ∷ plain_field (codes "isDeprecated") (codes "Boolean!")
    ∷ plain_field (codes "deprecationReason") (codes "String")
    ∷ []))

-- section 4.2.4
unfoldable pub input_value_type : Meta
input_value_type = plain_object (codes "__InputValue") (fields (
    plain_field (codes "name") (codes "String!")
    ∷ plain_field (codes "description") (codes "String")
    ∷ plain_field (codes "type") (codes "__Type!")
    ∷ plain_field (codes "defaultValue") (codes "String")
    ∷ plain_field (codes "isDeprecated") (codes "Boolean!")
    ∷ plain_field (codes "deprecationReason") (codes "String")
    ∷ []))

-- section 4.2.5
unfoldable pub enum_value_type : Meta
enum_value_type = plain_object (codes "__EnumValue") (fields (
    plain_field (codes "name") (codes "String!")
    ∷ plain_field (codes "description") (codes "String")
    ∷ plain_field (codes "isDeprecated") (codes "Boolean!")
    ∷ plain_field (codes "deprecationReason") (codes "String")
    ∷ []))

-- section 4.2.6
unfoldable pub directive_type : Meta
directive_type = plain_object (codes "__Directive") (fields (
    plain_field (codes "name") (codes "String!")
    ∷ plain_field (codes "description") (codes "String")
    ∷ plain_field (codes "locations") (codes "[__DirectiveLocation!]!")
    ∷ members_field (codes "args") (codes "[__InputValue!]!")
    ∷ plain_field (codes "isRepeatable") (codes "Boolean!")
    ∷ []))

-- the kinds of types, and the two that wrap others: section 4.2.2
unfoldable pub type_kind_type : Meta
type_kind_type = plain_enum (codes "__TypeKind") (values (map plain_value (
    codes "SCALAR" ∷ codes "OBJECT" ∷ codes "INTERFACE" ∷ codes "UNION" ∷ codes "ENUM" ∷ codes "INPUT_OBJECT"
    ∷ codes "LIST" ∷ codes "NON_NULL" ∷ [])))

-- the locations of section 3.13: section 4.2.6
unfoldable pub directive_location_type : Meta
directive_location_type = plain_enum (codes "__DirectiveLocation") (values (map plain_value (
    codes "QUERY" ∷ codes "MUTATION" ∷ codes "SUBSCRIPTION" ∷ codes "FIELD" ∷ codes "FRAGMENT_DEFINITION"
    ∷ codes "FRAGMENT_SPREAD" ∷ codes "INLINE_FRAGMENT" ∷ codes "VARIABLE_DEFINITION" ∷ codes "SCHEMA" ∷ codes "SCALAR"
    ∷ codes "OBJECT" ∷ codes "FIELD_DEFINITION" ∷ codes "ARGUMENT_DEFINITION" ∷ codes "INTERFACE" ∷ codes "UNION"
    ∷ codes "ENUM" ∷ codes "ENUM_VALUE" ∷ codes "INPUT_OBJECT" ∷ codes "INPUT_FIELD_DEFINITION" ∷ [])))

-- in the order in which they are added
abbrev pub introspection_types : List Meta
introspection_types = schema_type ∷ type_type ∷ field_type ∷ input_value_type ∷ enum_value_type ∷ directive_type ∷ type_kind_type ∷ directive_location_type ∷ []

-- ---- the fields of the query root

-- a field with a description and these arguments
abbrev pub described_field : Text → Text → Text → List InputValue → Field
described_field name ty description args = record (plain_field name ty) { description = Some description; args = arguments args }

-- `__schema`, section 4.2
unfoldable pub schema_field : Field
schema_field = described_field (codes "__schema") (codes "__Schema") (codes "Access the current type schema of this server.") []

-- `__type(name: String!)`, section 4.2
unfoldable pub type_field : Field
type_field = described_field (codes "__type") (codes "__Type") (codes "Request the type information of a single type.")
    (plain_input_value (codes "name") (codes "String!") ∷ [])

-- in the order in which they are added
abbrev pub query_fields : List Field
query_fields = schema_field ∷ type_field ∷ []
