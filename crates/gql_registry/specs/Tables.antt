-- The tables of the code: what each of its rows stands for.
use Rattle.std.specs.Prelude.{Bool, true, not, ◌&&◌, List, [], ◌∷◌, map, Option, Some, None}
use Rattle.std.specs.Borrow.{Bor}
use Rattle.std.specs.Option.{option_map}
use Rattle.gql_registry_meta.specs.Parts.{Text, is_among, InputValue, Field, EnumValue, Directive, Meta, with_entry_in_place}
use Rattle.gql_registry.specs.Plain.{plain_input_value, plain_field, fields, plain_value, values, plain_scalar}
use Rattle.gql_registry.specs.System.{skip, include, deprecated, specified_by, one_of}
use Rattle.gql_registry.specs.Introspection.{members_field, schema_type, type_type, field_type, input_value_type, enum_value_type, directive_type, type_kind_type, directive_location_type, schema_field, type_field}
use Rattle.gql_registry.specs.Additions.{Step, directive, missing_type, query_field, with_field}
use Rattle.gql_registry.specs.declared.plain.Argument.{Argument}
use Rattle.gql_registry.specs.declared.system.SystemDirective.{SystemDirective}
use Rattle.gql_registry.specs.declared.system.SystemDirective.TheVariants as system
use Rattle.gql_registry.specs.declared.introspection.Row.{Row}
use Rattle.gql_registry.specs.declared.introspection.Row.TheVariants.{Plain, Members}
use Rattle.gql_registry.specs.declared.introspection.IntrospectionType.{IntrospectionType}
use Rattle.gql_registry.specs.declared.introspection.IntrospectionType.TheVariants as introspection
use Rattle.gql_registry.specs.declared.introspection.QueryField.{QueryField}
use Rattle.gql_registry.specs.declared.introspection.QueryField.TheVariants as query
use Rattle.gql_registry.specs.declared.additions.Addition.{Addition}
use Rattle.gql_registry.specs.declared.additions.Addition.TheVariants as addition

-- the argument that the row describes
abbrev pub argument_at : Argument → InputValue
argument_at row = record (plain_input_value row.name.now row.ty.now) {
  description = option_map (λ text. text.now) row.description;
  default_value = option_map (λ text. text.now) row.default_value;
}

-- the argument that is given, if any
abbrev pub arguments_at : Option Argument → List InputValue
arguments_at None = []
arguments_at (Some row) = argument_at row ∷ []

-- no name stands twice
abbrev pub are_distinct : List Text → Bool
are_distinct [] = true
are_distinct (name ∷ names) = not (is_among name names) && are_distinct names

-- enum values with one more of this name
abbrev pub with_value : List (Text × EnumValue) → Text → List (Text × EnumValue)
with_value values name = with_entry_in_place values name (plain_value name)

-- a value of each of the names, under it
abbrev pub all_values : List (Bor Text) → List (Text × EnumValue)
all_values names = values (map (λ name. plain_value name.now) names)

-- the directive that the code names
unfoldable pub directive_at : SystemDirective → Directive
directive_at system.Skip = skip
directive_at system.Include = include
directive_at system.Deprecated = deprecated
directive_at system.SpecifiedBy = specified_by
directive_at system.OneOf = one_of

-- the field that the row describes
abbrev pub field_at : Row → Field
field_at (Plain name ty) = plain_field name.now ty.now
field_at (Members name ty) = members_field name.now ty.now

-- fields with that of one row more
abbrev pub with_row : List (Text × Field) → Row → List (Text × Field)
with_row fields row = with_field fields (field_at row)

-- a field of each of the rows, under its name
abbrev pub all_rows : List Row → List (Text × Field)
all_rows rows = fields (map field_at rows)

-- the names of the fields
abbrev pub row_names : List Row → List Text
row_names rows = map (λ row. (field_at row).name) rows

-- the type that the code names
unfoldable pub type_at : IntrospectionType → Meta
type_at introspection.Schema = schema_type
type_at introspection.Type = type_type
type_at introspection.Field = field_type
type_at introspection.InputValue = input_value_type
type_at introspection.EnumValue = enum_value_type
type_at introspection.Directive = directive_type
type_at introspection.TypeKind = type_kind_type
type_at introspection.DirectiveLocation = directive_location_type

-- the field that the code names
unfoldable pub query_field_at : QueryField → Field
query_field_at query.Schema = schema_field
query_field_at query.Type = type_field

-- the addition that the code names
abbrev pub step_of : Addition → Step
step_of (addition.Directive which) = directive (directive_at which)
step_of (addition.Scalar name) = missing_type (plain_scalar name.now)
step_of (addition.Type which) = missing_type (type_at which)
step_of (addition.QueryField which) = query_field (query_field_at which)
