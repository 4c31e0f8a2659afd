-- Which part of a document a part of a view shows. Places are left open, and so is what the text of a view does not say.
-- The attributes `@deprecated`, `@specifiedBy` and `@oneOf` stand before all other uses.
use Rattle.std.specs.Prelude.{◌≡◌, ℕ, Bool, true, false, List, [], ◌∷◌, ◌++◌, Option, Some, None, map, codes}
use Rattle.std.specs.List.{AllZip}
use Rattle.std.specs.Map.{values_of}
use Rattle.std.specs.Option.{option_map}
use Rattle.gql_text_values.specs.ConstValues.{value_text}
use Rattle.gql_text_values.specs.TypeRefs.{type_text}
use Rattle.gql_text_values.specs.declared.const_value.ConstValue.TheVariants as value
use Rattle.gql_text_syntax.specs.declared.operation.OperationType.{OperationType}
use Rattle.gql_text_syntax.specs.declared.operation.OperationType.TheVariants.{Query, Mutation, Subscription}
use Rattle.gql_text.specs.declared.document.Definition.{Definition}
use Rattle.gql_text.specs.declared.document.Definition.TheVariants as definition
use Rattle.gql_text.specs.declared.document.DirectiveDef.{DirectiveDef}
use Rattle.gql_text.specs.declared.document.DirectiveUse.{DirectiveUse}
use Rattle.gql_text.specs.declared.document.EnumValueDef.{EnumValueDef}
use Rattle.gql_text.specs.declared.document.FieldDef.{FieldDef}
use Rattle.gql_text.specs.declared.document.InputDef.{InputDef}
use Rattle.gql_text.specs.declared.document.RootLine.{RootLine}
use Rattle.gql_text.specs.declared.document.TypeHead.{TypeHead}
use Rattle.gql_registry_meta.specs.Parts.{Text, Deprecated, not_deprecated, deprecated_for, Invocation, InputValue, Field, EnumValue, Directive, ScalarType, ObjectType, InterfaceType, UnionType, EnumType, InputObjectType, Meta}
use Rattle.gql_registry_meta.specs.Parts.{scalar, object, interface, union, enum, input_object}
use Rattle.gql_registry_meta.specs.Locations.{location_text}
use Rattle.gql_sdl_view.specs.View.{View}
use Rattle.gql_sdl_rows.specs.Bare.{bare_line}

-- ---- uses of directives

-- a use of a directive without its place: section 2.12 of the GraphQL specification, October 2021
abbrev pub invocation_of : DirectiveUse → Invocation
invocation_of u = record { name = u.name; args = u.args }

-- `@deprecated`, with the reason where there is one: section 3.13.3
abbrev pub deprecated_use : Option Text → Invocation
deprecated_use None = record { name = codes "deprecated"; args = [] }
deprecated_use (Some reason) = record { name = codes "deprecated"; args = (codes "reason", value.String reason) ∷ [] }

-- the attribute of what is deprecated
abbrev pub deprecated_uses : Deprecated → List Invocation
deprecated_uses not_deprecated = []
deprecated_uses (deprecated_for reason) = deprecated_use reason ∷ []

-- the attribute `@specifiedBy`: section 3.13.4
abbrev pub url_uses : Option Text → List Invocation
url_uses None = []
url_uses (Some url) = record { name = codes "specifiedBy"; args = (codes "url", value.String url) ∷ [] } ∷ []

-- the attribute `@oneOf`
abbrev pub one_of_uses : Bool → List Invocation
one_of_uses true = record { name = codes "oneOf"; args = [] } ∷ []
one_of_uses false = []

-- these uses, in this order
abbrev pub ShowsUses : List Invocation → List DirectiveUse → Type 0
ShowsUses invocations uses = map invocation_of uses ≡ invocations

-- ---- members

-- an argument of a field, or a field of an input object: section 3.6.1
pub record ShowsInput (value : InputValue) (input : InputDef) : Type 0 where
  pub name : value.name ≡ input.name
  pub description : value.description ≡ input.description
  pub ty : value.ty ≡ type_text input.ty
  pub default : value.default_value ≡ option_map value_text input.default
  pub uses : ShowsUses (deprecated_uses value.deprecation ++ value.directive_invocations) input.uses

-- an argument of a directive, which has neither a description nor uses: section 3.13
pub record ShowsArgument (value : InputValue) (input : InputDef) : Type 0 where
  pub name : value.name ≡ input.name
  pub description : input.description ≡ None
  pub ty : value.ty ≡ type_text input.ty
  pub default : value.default_value ≡ option_map value_text input.default
  pub uses : input.uses ≡ []

-- a field of an object or of an interface: section 3.6
pub record ShowsField (field : Field) (def : FieldDef) : Type 0 where
  pub name : field.name ≡ def.name
  pub description : field.description ≡ def.description
  pub args : AllZip ShowsInput (values_of field.args) def.args
  pub ty : field.ty ≡ type_text def.ty
  pub uses : ShowsUses (deprecated_uses field.deprecation ++ field.directive_invocations) def.uses

-- a value of an enum: section 3.9
pub record ShowsValue (item : EnumValue) (def : EnumValueDef) : Type 0 where
  pub name : item.name ≡ def.name
  pub description : item.description ≡ def.description
  pub uses : ShowsUses (deprecated_uses item.deprecation ++ item.directive_invocations) def.uses

-- ---- types

-- the name, the description and the uses of a type
pub record ShowsHead (name : Text) (description : Option Text) (invocations : List Invocation) (head : TypeHead) : Type 0 where
  pub name_is : name ≡ head.name
  pub description_is : description ≡ head.description
  pub uses : ShowsUses invocations head.uses

-- a type that implements these names, and its definition: sections 3.5 to 3.10
pub data ShowsType (names : List Text) : Meta → Definition → Type 0 where
  shows_scalar : (type : ScalarType) (head : TypeHead) → ShowsHead type.name type.description (url_uses type.specified_by_url ++ type.directive_invocations) head → ShowsType names (scalar type) (definition.Scalar head)
  shows_object : (type : ObjectType) (head : TypeHead) (implements : List Text) (fields : List FieldDef) → ShowsHead type.name type.description type.directive_invocations head → names ≡ implements
      → AllZip ShowsField (values_of type.fields) fields → ShowsType names (object type) (definition.Object head implements fields)
  shows_interface : (type : InterfaceType) (head : TypeHead) (implements : List Text) (fields : List FieldDef) → ShowsHead type.name type.description type.directive_invocations head → names ≡ implements
      → AllZip ShowsField (values_of type.fields) fields → ShowsType names (interface type) (definition.Interface head implements fields)
  shows_union : (type : UnionType) (head : TypeHead) (members : List Text) → ShowsHead type.name type.description type.directive_invocations head → type.possible_types ≡ members
      → ShowsType names (union type) (definition.Union head members)
  shows_enum : (type : EnumType) (head : TypeHead) (values : List EnumValueDef) → ShowsHead type.name type.description type.directive_invocations head → AllZip ShowsValue (values_of type.enum_values) values
      → ShowsType names (enum type) (definition.Enum head values)
  shows_input : (type : InputObjectType) (head : TypeHead) (fields : List InputDef) → ShowsHead type.name type.description (one_of_uses type.oneof ++ type.directive_invocations) head
      → AllZip ShowsInput (values_of type.input_fields) fields → ShowsType names (input_object type) (definition.Input head fields)

-- types, each with the list of its place, and their definitions in the same order; a type without a list implements nothing
abbrev pub ShowsTypes : List Meta → List (List Text) → List Definition → Type 0
ShowsTypes [] lists [] = Unit {0}
ShowsTypes (type ∷ types) [] (d ∷ ds) = ShowsType [] type d × ShowsTypes types [] ds
ShowsTypes (type ∷ types) (names ∷ lists) (d ∷ ds) = ShowsType names type d × ShowsTypes types lists ds
ShowsTypes _ _ _ = ⊥

-- ---- directives and roots

-- a definition of a directive: section 3.13
pub record ShowsDirective (directive : Directive) (def : DirectiveDef) : Type 0 where
  pub name : directive.name ≡ def.name
  pub description : directive.description ≡ def.description
  pub args : AllZip ShowsArgument (values_of directive.args) def.args
  pub repeatable : directive.is_repeatable ≡ def.repeatable
  pub locations : map location_text directive.locations ≡ def.locations

-- the definitions of directives
abbrev pub directive_definitions : List DirectiveDef → List Definition
directive_definitions directives = map (λ d. definition.Directive d) directives

-- a line of a schema block
abbrev pub root_line : OperationType → Text → RootLine
root_line kind name = record { kind = kind; name = name; at = 0 }

-- the line of a root, where there is one
abbrev pub optional_line : OperationType → Option Text → List RootLine
optional_line kind None = []
optional_line kind (Some name) = root_line kind name ∷ []

-- the lines of a schema block: section 3.3
abbrev pub block_lines : View → List RootLine
block_lines view = root_line Query view.query ∷ (optional_line Mutation view.mutation ++ optional_line Subscription view.subscription)

-- the types in the order of the view, then the definitions of directives, then the schema block
pub record ShowsDocument (view : View) (definitions : List Definition) : Type 0 where
  pub types : List Definition
  pub directives : List DirectiveDef
  pub roots : List RootLine
  pub at : ℕ
  pub parts : definitions ≡ types ++ (directive_definitions directives ++ definition.SchemaBlock roots at ∷ [])
  pub shows_types : ShowsTypes view.types view.implements types
  pub shows_directives : AllZip ShowsDirective view.directives directives
  pub shows_roots : map bare_line roots ≡ block_lines view
