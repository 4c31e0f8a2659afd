-- A document without its places: each place is 0, and all else stays.
use Rattle.std.specs.Prelude.{map}
use Rattle.gql_text.specs.declared.document.Definition.TheVariants as definition
use Rattle.gql_text.specs.declared.document.Document.{Document}
use Rattle.gql_text.specs.declared.document.Definition.{Definition}
use Rattle.gql_text.specs.declared.document.TypeHead.{TypeHead}
use Rattle.gql_text.specs.declared.document.RootLine.{RootLine}
use Rattle.gql_text.specs.declared.document.FieldDef.{FieldDef}
use Rattle.gql_text.specs.declared.document.InputDef.{InputDef}
use Rattle.gql_text.specs.declared.document.EnumValueDef.{EnumValueDef}
use Rattle.gql_text.specs.declared.document.DirectiveUse.{DirectiveUse}
use Rattle.gql_text.specs.declared.document.DirectiveDef.{DirectiveDef}

-- a use of a directive
abbrev pub bare_use : DirectiveUse → DirectiveUse
bare_use u = record { name = u.name; args = u.args; at = 0 }

-- an argument or a field of an input object
abbrev pub bare_input : InputDef → InputDef
bare_input i = record { name = i.name; description = i.description; ty = i.ty; default = i.default; uses = map bare_use i.uses; at = 0 }

-- a field of an object or of an interface
abbrev pub bare_field : FieldDef → FieldDef
bare_field f = record { name = f.name; description = f.description; args = map bare_input f.args; ty = f.ty; uses = map bare_use f.uses; at = 0 }

-- a value of an enum
abbrev pub bare_value : EnumValueDef → EnumValueDef
bare_value v = record { name = v.name; description = v.description; uses = map bare_use v.uses; at = 0 }

-- a line of a schema block
abbrev pub bare_line : RootLine → RootLine
bare_line r = record { kind = r.kind; name = r.name; at = 0 }

-- what all definitions of types have
abbrev pub bare_head : TypeHead → TypeHead
bare_head h = record { name = h.name; description = h.description; uses = map bare_use h.uses; at = 0 }

-- a definition of a directive
abbrev pub bare_directive : DirectiveDef → DirectiveDef
bare_directive d = record {
  name = d.name;
  description = d.description;
  args = map bare_input d.args;
  repeatable = d.repeatable;
  locations = d.locations;
  at = 0;
}

-- one definition
abbrev pub bare_definition : Definition → Definition
bare_definition (definition.SchemaBlock roots at) = definition.SchemaBlock (map bare_line roots) 0
bare_definition (definition.Scalar head) = definition.Scalar (bare_head head)
bare_definition (definition.Object head implements fields) = definition.Object (bare_head head) implements (map bare_field fields)
bare_definition (definition.Interface head implements fields) = definition.Interface (bare_head head) implements (map bare_field fields)
bare_definition (definition.Union head members) = definition.Union (bare_head head) members
bare_definition (definition.Enum head values) = definition.Enum (bare_head head) (map bare_value values)
bare_definition (definition.Input head fields) = definition.Input (bare_head head) (map bare_input fields)
bare_definition (definition.Directive directive) = definition.Directive (bare_directive directive)

-- all definitions
abbrev pub bare_document : Document → Document
bare_document d = record { definitions = map bare_definition d.definitions }
