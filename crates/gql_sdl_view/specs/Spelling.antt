-- The text of a view: its types, its directive definitions, and the schema block, in the words of the type system
-- definition language, section 3 of the GraphQL specification, October 2021.
use Rattle.std.specs.Prelude.{Bool, true, false, List, [], ◌∷◌, ◌++◌, Option, Some, None, codes}
use Rattle.std.specs.List.{flat_map, concat, join_by, list_any}
use Rattle.std.specs.Option.{is_some}
use Rattle.std.specs.Map.{values_of}
use Rattle.gql_text_lexer.specs.Quoting.{quote}
use Rattle.gql_registry_meta.specs.Parts.{Text, Deprecated, not_deprecated, deprecated_for, Invocation, InputValue, Field, EnumValue, Directive, Meta}
use Rattle.gql_registry_meta.specs.Parts.{scalar, object, interface, union, enum, input_object}
use Rattle.gql_registry_meta.specs.Invocations.{invocation_text}
use Rattle.gql_registry_meta.specs.Locations.{location_text}
use Rattle.gql_sdl_view.specs.Options.{Options, Layout, layout_of}
use Rattle.gql_sdl_readback.specs.Descriptions.{description_text}
use Rattle.gql_sdl_view.specs.Descriptions.{described}
use Rattle.gql_sdl_view.specs.View.{View}

-- ---- parts that several owners have

-- each use: a space, and `@n(a: v, b: w)`
abbrev pub uses_text : List Invocation → Text
uses_text uses = flat_map (λ invocation. codes " " ++ invocation_text invocation) uses

-- ` @deprecated`, or ` @deprecated(reason: Q)`
abbrev pub deprecated_text : Deprecated → Text
deprecated_text not_deprecated = []
deprecated_text (deprecated_for None) = codes " @deprecated"
deprecated_text (deprecated_for (Some reason)) = concat (codes " @deprecated(reason: " ∷ quote reason ∷ codes ")" ∷ [])

-- ` = V`
abbrev pub default_text : Option Text → Text
default_text None = []
default_text (Some value) = codes " = " ++ value

-- `n: T = V`
abbrev pub bare_value_text : InputValue → Text
bare_value_text value = concat (value.name ∷ codes ": " ∷ value.ty ∷ default_text value.default_value ∷ [])

-- `n: T`, the default, the deprecation and the uses
abbrev pub input_value_text : InputValue → Text
input_value_text value = bare_value_text value ++ (deprecated_text value.deprecation ++ uses_text value.directive_invocations)

-- nothing without members; else the members between braces
abbrev pub body_text : {X : Type 0} → (X → Text) → List X → Text
body_text text [] = []
body_text text (member ∷ members) = codes " {\n" ++ (flat_map text (member ∷ members) ++ codes "}")

-- ---- arguments of fields

-- the argument has a description, be it empty
abbrev pub is_described : InputValue → Bool
is_described value = is_some value.description

-- two indents
abbrev pub second_indent : Layout → Text
second_indent layout = layout.indent ++ layout.indent

-- LF, and the description on lines of its own
abbrev pub argument_description : Layout → Option Text → Text
argument_description layout None = []
argument_description layout (Some text) = codes "\n" ++ description_text layout.single (second_indent layout) text

-- an argument where some argument has a description
abbrev pub described_argument_text : Layout → InputValue → Text
described_argument_text layout value = argument_description layout value.description ++ (second_indent layout ++ input_value_text value)

-- arguments on one line, or each on its own lines
abbrev pub argument_list : Layout → Bool → List InputValue → Text
argument_list layout false values = codes "(" ++ (join_by input_value_text (codes ", ") values ++ codes ")")
argument_list layout true values = codes "(" ++ (join_by (described_argument_text layout) (codes ",") values ++ concat (codes "\n" ∷ layout.indent ∷ codes ")" ∷ []))

-- nothing without arguments
abbrev pub arguments_text : Layout → List InputValue → Text
arguments_text layout [] = []
arguments_text layout (value ∷ values) = argument_list layout (list_any is_described (value ∷ values)) (value ∷ values)

-- ---- members, each on lines of its own

-- a field of an object or an interface: section 3.6
abbrev pub field_text : Layout → Field → Text
field_text layout field = described layout.single layout.indent field.description
    ++ (layout.indent ++ (field.name ++ (arguments_text layout (values_of field.args)
    ++ (codes ": " ++ (field.ty ++ (deprecated_text field.deprecation ++ (uses_text field.directive_invocations ++ codes "\n")))))))

-- an enum value: section 3.9
abbrev pub value_text : Layout → EnumValue → Text
value_text layout value = described layout.single layout.indent value.description
    ++ (layout.indent ++ (value.name ++ (deprecated_text value.deprecation ++ (uses_text value.directive_invocations ++ codes "\n"))))

-- a field of an input object: section 3.10
abbrev pub input_text : Layout → InputValue → Text
input_text layout value = described layout.single layout.indent value.description ++ (layout.indent ++ (input_value_text value ++ codes "\n"))

-- ---- types

-- the description, the word for the kind, and the name
abbrev pub head_text : Layout → Option Text → Text → Text → Text
head_text layout description keyword name = described layout.single [] description ++ (keyword ++ name)

-- ` implements A & B`, or nothing
abbrev pub implements_text : List Text → Text
implements_text [] = []
implements_text (name ∷ names) = codes " implements " ++ join_by (λ text. text) (codes " & ") (name ∷ names)

-- ` @specifiedBy(url: Q)`, or nothing
abbrev pub url_text : Option Text → Text
url_text None = []
url_text (Some url) = concat (codes " @specifiedBy(url: " ∷ quote url ∷ codes ")" ∷ [])

-- ` = A | B`, or nothing
abbrev pub members_text : List Text → Text
members_text [] = []
members_text (name ∷ names) = codes " = " ++ join_by (λ text. text) (codes " | ") (name ∷ names)

-- ` @oneOf` where an input object is marked, or nothing
abbrev pub one_of_text : Bool → Text
one_of_text true = codes " @oneOf"
one_of_text false = []

-- the two line feeds after a type
abbrev pub type_end : Text
type_end = codes "\n\n"

-- a type that implements these names: sections 3.5 to 3.10
abbrev pub type_text : Layout → List Text → Meta → Text
type_text layout names (scalar type) = head_text layout type.description (codes "scalar ") type.name
    ++ (url_text type.specified_by_url ++ (uses_text type.directive_invocations ++ type_end))
type_text layout names (object type) = head_text layout type.description (codes "type ") type.name
    ++ (implements_text names ++ (uses_text type.directive_invocations ++ (body_text (field_text layout) (values_of type.fields) ++ type_end)))
type_text layout names (interface type) = head_text layout type.description (codes "interface ") type.name
    ++ (implements_text names ++ (uses_text type.directive_invocations ++ (body_text (field_text layout) (values_of type.fields) ++ type_end)))
type_text layout names (union type) = head_text layout type.description (codes "union ") type.name
    ++ (uses_text type.directive_invocations ++ (members_text type.possible_types ++ type_end))
type_text layout names (enum type) = head_text layout type.description (codes "enum ") type.name
    ++ (uses_text type.directive_invocations ++ (body_text (value_text layout) (values_of type.enum_values) ++ type_end))
type_text layout names (input_object type) = head_text layout type.description (codes "input ") type.name
    ++ (one_of_text type.oneof ++ (uses_text type.directive_invocations ++ (body_text (input_text layout) (values_of type.input_fields) ++ type_end)))

-- the first of the lists, and the others; a type without a list implements nothing
abbrev pub first_list : List (List Text) → List Text
first_list [] = []
first_list (names ∷ lists) = names

-- the lists after the first
abbrev pub other_lists : List (List Text) → List (List Text)
other_lists [] = []
other_lists (names ∷ lists) = lists

-- the types, each with the list of its place
abbrev pub types_text : Layout → List Meta → List (List Text) → Text
types_text layout [] lists = []
types_text layout (type ∷ types) lists = type_text layout (first_list lists) type ++ types_text layout types (other_lists lists)

-- ---- directive definitions: section 3.13

-- `(a: T = V, b: U)`, or nothing
abbrev pub bare_arguments_text : List InputValue → Text
bare_arguments_text [] = []
bare_arguments_text (value ∷ values) = codes "(" ++ (join_by bare_value_text (codes ", ") (value ∷ values) ++ codes ")")

-- ` repeatable` where a directive may be used again in one place, or nothing
abbrev pub repeatable_text : Bool → Text
repeatable_text true = codes " repeatable"
repeatable_text false = []

-- a directive definition without the line feed after it
abbrev pub directive_text : Layout → Directive → Text
directive_text layout directive = head_text layout directive.description (codes "directive @") directive.name
    ++ (bare_arguments_text (values_of directive.args) ++ (repeatable_text directive.is_repeatable
    ++ (codes " on " ++ join_by location_text (codes " | ") directive.locations)))

-- the directive definitions, each with LF after it
abbrev pub directives_text : Layout → List Directive → Text
directives_text layout directives = flat_map (λ directive. directive_text layout directive ++ codes "\n") directives

-- ---- the schema block: section 3.3

-- one indent, `kind: Name` and LF
abbrev pub root_text : Layout → Text → Text → Text
root_text layout keyword name = concat (layout.indent ∷ keyword ∷ name ∷ codes "\n" ∷ [])

-- the line of a root, or nothing where there is none
abbrev pub optional_root_text : Layout → Text → Option Text → Text
optional_root_text layout keyword None = []
optional_root_text layout keyword (Some name) = root_text layout keyword name

-- the query root, and those of mutations and subscriptions where there are any
abbrev pub schema_text : Layout → Text → Option Text → Option Text → Text
schema_text layout query mutation subscription = codes "schema {\n" ++ (root_text layout (codes "query: ") query
    ++ (optional_root_text layout (codes "mutation: ") mutation
    ++ (optional_root_text layout (codes "subscription: ") subscription ++ codes "}\n")))

-- ---- the whole text

-- the types, then the directive definitions, then the schema block
abbrev pub spelled : Layout → View → Text
spelled layout view = types_text layout view.types view.implements ++ (directives_text layout view.directives ++ schema_text layout view.query view.mutation view.subscription)

-- the text of a view under options
abbrev pub spell : Options → View → Text
spell o view = spelled (layout_of o) view
