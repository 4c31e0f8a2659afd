-- The directives and scalars that every schema has: sections 3.5 and 3.13 of the GraphQL specification, October 2021.
-- The directive `oneOf` and the places of `deprecated` other than fields and enum values are not part of that edition.
use Rattle.std.specs.Prelude.{List, [], ◌∷◌, Some, codes}
use Rattle.gql_registry_meta.specs.Parts.{Text, InputValue, Directive, Meta}
use Rattle.gql_registry_meta.specs.declared.directive_location.DirectiveLocation.{DirectiveLocation}
use Rattle.gql_registry_meta.specs.declared.directive_location.DirectiveLocation.TheVariants as location
use Rattle.gql_registry.specs.Plain.{plain_input_value, plain_directive, plain_scalar}

-- an argument with a description
abbrev pub described : Text → InputValue → InputValue
described description argument = record argument { description = Some description }

-- where a query may say that a field or a fragment is left out: sections 3.13.1 and 3.13.2
abbrev pub selections : List DirectiveLocation
selections = location.Field ∷ location.FragmentSpread ∷ location.InlineFragment ∷ []

-- section 3.13.1
unfoldable pub skip : Directive
skip = plain_directive (codes "skip")
    (codes "Directs the executor to skip this field or fragment when the `if` argument is true.")
    selections
    (described (codes "Skipped when true.") (plain_input_value (codes "if") (codes "Boolean!")) ∷ [])

-- section 3.13.2
unfoldable pub include : Directive
include = plain_directive (codes "include")
    (codes "Directs the executor to include this field or fragment only when the `if` argument is true.")
    selections
    (described (codes "Included when true.") (plain_input_value (codes "if") (codes "Boolean!")) ∷ [])

-- `reason: String = "No longer supported"`
abbrev pub reason : InputValue
reason = record (described (codes "A reason for why it is deprecated, formatted using Markdown syntax") (plain_input_value (codes "reason") (codes "String"))) {
  default_value = Some (codes "\"No longer supported\"");
}

-- section 3.13.3
unfoldable pub deprecated : Directive
deprecated = plain_directive (codes "deprecated")
    (codes "Marks an element of a GraphQL schema as no longer supported.")
    (location.FieldDefinition ∷ location.ArgumentDefinition ∷ location.InputFieldDefinition ∷ location.EnumValue ∷ [])
    (reason ∷ [])

-- section 3.13.4
unfoldable pub specified_by : Directive
specified_by = plain_directive (codes "specifiedBy")
    (codes "Provides a scalar specification URL for specifying the behavior of custom scalar types.")
    (location.Scalar ∷ [])
    (described (codes "URL that specifies the behavior of this scalar.") (plain_input_value (codes "url") (codes "String!")) ∷ [])

-- an input object that takes exactly one of its fields
unfoldable pub one_of : Directive
one_of = plain_directive (codes "oneOf")
    (codes "Indicates that an Input Object is a OneOf Input Object (and thus requires exactly one of its field be provided)")
    (location.InputObject ∷ [])
    []

-- in the order in which they are added
abbrev pub system_directives : List Directive
system_directives = skip ∷ include ∷ deprecated ∷ specified_by ∷ one_of ∷ []

-- the scalars of section 3.5, in the same order
abbrev pub system_scalars : List Meta
system_scalars = plain_scalar (codes "Boolean") ∷ plain_scalar (codes "Int") ∷ plain_scalar (codes "Float") ∷ plain_scalar (codes "String") ∷ plain_scalar (codes "ID") ∷ []
