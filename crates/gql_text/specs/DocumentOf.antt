-- The document that a written tree stands for: its descriptions by their values, and a place for each part.
use Rattle.std.specs.Prelude.{ℕ, List, [], map, Option, Some, None}
use Rattle.std.specs.Option.{option_map}
use Rattle.gql_text_values.specs.declared.const_value.ConstValue.{ConstValue}
use Rattle.gql_text_values.specs.declared.const_value.ConstValue.TheVariants as value
use Rattle.gql_text.specs.declared.document.Definition.TheVariants as definition
use Rattle.gql_text.specs.declared.document.Document.{Document}
use Rattle.gql_text.specs.declared.document.Definition.{Definition}
use Rattle.gql_text.specs.declared.document.TypeHead.{TypeHead}
use Rattle.gql_text.specs.declared.document.RootLine.{RootLine}
use Rattle.gql_text.specs.declared.document.FieldDef.{FieldDef}
use Rattle.gql_text.specs.declared.document.InputDef.{InputDef}
use Rattle.gql_text.specs.declared.document.EnumValueDef.{EnumValueDef}
use Rattle.gql_text.specs.declared.document.DirectiveUse.{DirectiveUse}
use Rattle.gql_text_syntax.specs.Types.{type_of}
use Rattle.gql_text_syntax.specs.declared.syntax.PlacedName.{PlacedName}
use Rattle.gql_text_syntax.specs.declared.syntax.Description.{Description}
use Rattle.gql_text_syntax.specs.declared.syntax.Literal.{Literal, fold-Literal}
use Rattle.gql_text_syntax.specs.declared.syntax.Literal.TheOpen.{Literal-F}
use Rattle.gql_text_syntax.specs.declared.syntax.Argument.{Argument}
use Rattle.gql_text_syntax.specs.declared.syntax.Use.{Use}
use Rattle.gql_text_syntax.specs.declared.syntax.InputValue.{InputValue}
use Rattle.gql_text_syntax.specs.declared.syntax.Field.{Field}
use Rattle.gql_text_syntax.specs.declared.syntax.EnumValue.{EnumValue}
use Rattle.gql_text_syntax.specs.declared.syntax.Root.{Root}
use Rattle.gql_text_syntax.specs.declared.syntax.Implements.{Implements}
use Rattle.gql_text_syntax.specs.declared.syntax.Kind.{Kind}
use Rattle.gql_text_syntax.specs.declared.syntax.Kind.TheVariants as kind
use Rattle.gql_text_syntax.specs.declared.syntax.WrittenDefinition.{WrittenDefinition}

-- the outermost form of a value
abbrev pub const_value_by : Literal-F ConstValue → ConstValue
const_value_by Literal-F.Null = value.Null
const_value_by (Literal-F.Number number) = value.Number number
const_value_by (Literal-F.String text) = value.String text
const_value_by (Literal-F.Boolean truth) = value.Boolean truth
const_value_by (Literal-F.Enum name) = value.Enum name
const_value_by (Literal-F.List items) = value.List items
const_value_by (Literal-F.Object entries) = value.Object (map (λ e. (e.0.name, e.1)) entries)

-- a value without the places of its keys, at any depth
abbrev pub const_value_of : Literal → ConstValue
const_value_of = fold-Literal ConstValue const_value_by

-- an entry of an object, without the place of its key
abbrev pub const_entry_of : PlacedName × Literal → List ℕ × ConstValue
const_entry_of e = (e.0.name, const_value_of e.1)

-- names without their places
abbrev pub bare_names_of : List PlacedName → List (List ℕ)
bare_names_of names = map (λ n. n.name) names

-- the value of a description
abbrev pub description_of : Option Description → Option (List ℕ)
description_of description = option_map (λ d. d.text) description

-- an argument of a use
abbrev pub argument_of : Argument → List ℕ × ConstValue
argument_of a = (a.key.name, const_value_of a.value)

-- a use of a directive, at its `@`
abbrev pub use_of : Use → DirectiveUse
use_of u = record { name = u.name; args = map argument_of u.arguments; at = u.at }

-- an argument or a field of an input object, at its name
abbrev pub input_of : InputValue → InputDef
input_of i = record {
  name = i.key.name;
  description = description_of i.description;
  ty = type_of i.ty;
  default = option_map const_value_of i.default;
  uses = map use_of i.uses;
  at = i.key.at;
}

-- a field, at its name
abbrev pub field_def_of : Field → FieldDef
field_def_of f = record {
  name = f.key.name;
  description = description_of f.description;
  args = map input_of f.arguments;
  ty = type_of f.ty;
  uses = map use_of f.uses;
  at = f.key.at;
}

-- a value of an enumeration, at its name
abbrev pub enum_value_of : EnumValue → EnumValueDef
enum_value_of v = record {
  name = v.key.name;
  description = description_of v.description;
  uses = map use_of v.uses;
  at = v.key.at;
}

-- a root line, at its first word
abbrev pub root_line_of : Root → RootLine
root_line_of r = record { kind = r.kind; name = r.name; at = r.at }

-- the implemented names
abbrev pub implements_of : Option Implements → List (List ℕ)
implements_of None = []
implements_of (Some i) = bare_names_of i.names

-- what all definitions of types have, at the name
abbrev pub head_of : Option Description → PlacedName → List Use → TypeHead
head_of description key uses = record {
  name = key.name;
  description = description_of description;
  uses = map use_of uses;
  at = key.at;
}

-- Of a schema block the description and the uses are left out.
abbrev pub kind_of : Option Description → Kind → Definition
kind_of d (kind.Schema at uses roots) = definition.SchemaBlock (map root_line_of roots) at
kind_of d (kind.Scalar key uses) = definition.Scalar (head_of d key uses)
kind_of d (kind.Object o) = definition.Object (head_of d o.key o.uses) (implements_of o.implements) (map field_def_of o.fields)
kind_of d (kind.Interface o) = definition.Interface (head_of d o.key o.uses) (implements_of o.implements) (map field_def_of o.fields)
kind_of d (kind.Union key uses members) = definition.Union (head_of d key uses) (bare_names_of members)
kind_of d (kind.Enum key uses values) = definition.Enum (head_of d key uses) (map enum_value_of values)
kind_of d (kind.Input key uses fields) = definition.Input (head_of d key uses) (map input_of fields)
kind_of d (kind.Directive key arguments repeatable locations) = definition.Directive (record {
  name = key.name;
  description = description_of d;
  args = map input_of arguments;
  repeatable = repeatable;
  locations = locations;
  at = key.at;
})

-- one definition
abbrev pub definition_of : WrittenDefinition → Definition
definition_of d = kind_of d.description d.kind

-- the definitions in their order
abbrev pub document_of : List WrittenDefinition → Document
document_of ds = record { definitions = map definition_of ds }
