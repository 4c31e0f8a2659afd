-- The canonical form of a document: what the text of its view spells, apart from places. Attributes stand before all other
-- uses; types and directive definitions stand in name order, and members where that is asked; the arguments of a directive
-- have neither descriptions nor uses; the schema block is explicit.
use Rattle.std.specs.Prelude.{Bool, true, List, [], ◌∷◌, ◌++◌, filter, map, not, Option, Some, None, codes}
use Rattle.std.specs.List.{filter_map}
use Rattle.std.specs.Option.{is_some, unwrap_or}
use Rattle.gql_text_syntax.specs.declared.operation.OperationType.TheVariants.{Query, Mutation, Subscription}
use Rattle.gql_text_values.specs.declared.const_value.ConstValue.{ConstValue}
use Rattle.gql_text_values.specs.declared.const_value.ConstValue.TheVariants as values
use Rattle.gql_text_values.specs.declared.type_ref.TypeRef.{TypeRef}
use Rattle.gql_text_values.specs.declared.type_ref.TypeRef.TheVariants as refs
use Rattle.gql_text.specs.Roots.{root_of}
use Rattle.gql_text.specs.declared.document.Definition.{Definition}
use Rattle.gql_text.specs.declared.document.Definition.TheVariants as definition
use Rattle.gql_text.specs.declared.document.DirectiveDef.{DirectiveDef}
use Rattle.gql_text.specs.declared.document.DirectiveUse.{DirectiveUse}
use Rattle.gql_text.specs.declared.document.Document.{Document}
use Rattle.gql_text.specs.declared.document.EnumValueDef.{EnumValueDef}
use Rattle.gql_text.specs.declared.document.FieldDef.{FieldDef}
use Rattle.gql_text.specs.declared.document.InputDef.{InputDef}
use Rattle.gql_text.specs.declared.document.RootLine.{RootLine}
use Rattle.gql_text.specs.declared.document.TypeHead.{TypeHead}
use Rattle.gql_registry_meta.specs.Parts.{Text, Invocation, Directive, is_among}
use Rattle.gql_registry_meta.specs.Locations.{location_text}
use Rattle.gql_registry.specs.System.{skip, include, deprecated, specified_by, one_of}
use Rattle.gql_dynamic.specs.SchemaTypes.{TypeParts, upload, type_name}
use Rattle.gql_publish_document.specs.Document.{ordered_metas, query_root}
use Rattle.gql_publish_document.specs.Types.{type_in, directive_meta_of}
use Rattle.gql_publish_document.specs.Uses.{deprecation_in, url_in, has_one_of, invocations_in}
use Rattle.gql_sdl_view.specs.Options.{Options, Choice, document_choice}
use Rattle.gql_sdl_view.specs.Ordered.{arranged}
use Rattle.gql_sdl_view.specs.View.{is_needed}
use Rattle.gql_sdl_rows.specs.Shown.{deprecated_uses, url_uses, one_of_uses, root_line, optional_line, directive_definitions}

-- ---- uses and members

-- a use at the place 0
abbrev pub at_zero : Invocation → DirectiveUse
at_zero u = record { name = u.name; args = u.args; at = 0 }

-- the deprecation of a member, and then its other uses
abbrev pub member_uses : List DirectiveUse → List Invocation
member_uses uses = deprecated_uses (deprecation_in uses) ++ invocations_in uses

-- an argument of a field, or a field of an input object
abbrev pub canonical_input : InputDef → InputDef
canonical_input i = record {
  name = i.name;
  description = i.description;
  ty = i.ty;
  default = i.default;
  uses = map at_zero (member_uses i.uses);
  at = 0;
}

-- an argument of a directive
abbrev pub canonical_argument : InputDef → InputDef
canonical_argument i = record { name = i.name; description = None; ty = i.ty; default = i.default; uses = []; at = 0 }

-- a field of an object or of an interface
abbrev pub canonical_field : Choice → FieldDef → FieldDef
canonical_field choice f = record {
  name = f.name;
  description = f.description;
  args = map canonical_input (arranged (λ i. i.name) choice.sorted_arguments f.args);
  ty = f.ty;
  uses = map at_zero (member_uses f.uses);
  at = 0;
}

-- the fields of an object or of an interface
abbrev pub canonical_fields : Choice → List FieldDef → List FieldDef
canonical_fields choice fields = map (canonical_field choice) (arranged (λ f. f.name) choice.sorted_fields fields)

-- a value of an enum
abbrev pub canonical_value : EnumValueDef → EnumValueDef
canonical_value v = record { name = v.name; description = v.description; uses = map at_zero (member_uses v.uses); at = 0 }

-- ---- types

-- the head of a type with these uses
abbrev pub with_uses : List Invocation → TypeHead → TypeHead
with_uses us head = record { name = head.name; description = head.description; uses = map at_zero us; at = 0 }

-- the head of a type without attributes
abbrev pub canonical_head : TypeHead → TypeHead
canonical_head head = with_uses (invocations_in head.uses) head

-- a definition of a type
abbrev pub canonical_type : Choice → Definition → Definition
canonical_type choice (definition.Scalar head) = definition.Scalar (with_uses (url_uses (url_in head.uses) ++ invocations_in head.uses) head)
canonical_type choice (definition.Object head implements fields) = definition.Object (canonical_head head) implements (canonical_fields choice fields)
canonical_type choice (definition.Interface head implements fields) = definition.Interface (canonical_head head) implements (canonical_fields choice fields)
canonical_type choice (definition.Union head members) = definition.Union (canonical_head head) members
canonical_type choice (definition.Enum head values) = definition.Enum (canonical_head head) (map canonical_value (arranged (λ v. v.name) choice.sorted_enum_items values))
canonical_type choice (definition.Input head fields) =
    definition.Input (with_uses (one_of_uses (has_one_of head.uses) ++ invocations_in head.uses) head) (map canonical_input (arranged (λ i. i.name) choice.sorted_fields fields))
canonical_type choice (definition.SchemaBlock roots at) = definition.SchemaBlock roots at
canonical_type choice (definition.Directive directive) = definition.Directive directive

-- the type that a definition of a type defines
abbrev pub type_of : Option Text → Definition → TypeParts
type_of root d = unwrap_or (type_in root d) upload

-- whether a definition defines a type
abbrev pub is_type : Option Text → Definition → Bool
is_type root d = is_some (type_in root d)

-- the definitions of types in name order
abbrev pub ordered_definitions : Option Text → List Definition → List Definition
ordered_definitions root ds = arranged (λ d. type_name (type_of root d)) true (filter (is_type root) ds)

-- the types in canonical form
abbrev pub canonical_types : Choice → Option Text → List Definition → List Definition
canonical_types choice root ds = map (canonical_type choice) (ordered_definitions root ds)

-- ---- definitions of directives

-- a definition of a directive
abbrev pub canonical_directive : DirectiveDef → DirectiveDef
canonical_directive d = record {
  name = d.name;
  description = d.description;
  args = map canonical_argument d.args;
  repeatable = d.repeatable;
  locations = d.locations;
  at = 0;
}

-- ---- the directives that every schema has

-- the definition of one, with these arguments
abbrev pub system_definition : Directive → List InputDef → DirectiveDef
system_definition system args = record {
  name = system.name;
  description = system.description;
  args = args;
  repeatable = system.is_repeatable;
  locations = map location_text system.locations;
  at = 0;
}

-- an argument of one
abbrev pub system_argument : Text → Text → TypeRef → Option ConstValue → InputDef
system_argument name description ty default = record { name = name; description = Some description; ty = ty; default = default; uses = []; at = 0 }

abbrev pub skip_definition : DirectiveDef
skip_definition = system_definition skip (system_argument (codes "if") (codes "Skipped when true.") (refs.NonNull (refs.Named (codes "Boolean"))) None ∷ [])

abbrev pub include_definition : DirectiveDef
include_definition = system_definition include (system_argument (codes "if") (codes "Included when true.") (refs.NonNull (refs.Named (codes "Boolean"))) None ∷ [])

abbrev pub deprecated_definition : DirectiveDef
deprecated_definition = system_definition deprecated
    (system_argument (codes "reason") (codes "A reason for why it is deprecated, formatted using Markdown syntax") (refs.Named (codes "String")) (Some (values.String (codes "No longer supported"))) ∷ [])

abbrev pub specified_by_definition : DirectiveDef
specified_by_definition = system_definition specified_by
    (system_argument (codes "url") (codes "URL that specifies the behavior of this scalar.") (refs.NonNull (refs.Named (codes "String"))) None ∷ [])

abbrev pub one_of_definition : DirectiveDef
one_of_definition = system_definition one_of []

-- in the order in which they are added
abbrev pub system_definitions : List DirectiveDef
system_definitions = skip_definition ∷ include_definition ∷ deprecated_definition ∷ specified_by_definition ∷ one_of_definition ∷ []

-- ---- the whole document

-- a definition of a directive
abbrev pub directive_of : Definition → Option DirectiveDef
directive_of (definition.Directive directive) = Some directive
directive_of _ = None

-- those of a document
abbrev pub own_directives : List Definition → List DirectiveDef
own_directives ds = filter_map directive_of ds

-- whether a document defines no directive of this name
abbrev pub is_missing : List DirectiveDef → DirectiveDef → Bool
is_missing own system = not (is_among system.name (map (λ d. d.name) own))

-- the definitions of directives in name order: the document's, and the system's where it has none of the name
abbrev pub ordered_directive_definitions : List Definition → List DirectiveDef
ordered_directive_definitions ds = arranged (λ d. d.name) true (own_directives ds ++ filter (is_missing (own_directives ds)) system_definitions)

-- those that the types need, in canonical form
abbrev pub canonical_directives : Document → List DirectiveDef
canonical_directives d = map canonical_directive (filter (λ c. is_needed (ordered_metas d) (directive_meta_of c)) (ordered_directive_definitions d.definitions))

-- the lines of the schema block
abbrev pub canonical_roots : Document → List RootLine
canonical_roots d = root_line Query (query_root d) ∷ (optional_line Mutation (root_of Mutation d) ++ optional_line Subscription (root_of Subscription d))

-- the types, then the definitions of directives, then the schema block
abbrev pub canonical : Options → Document → Document
canonical o d = record {
  definitions = canonical_types (document_choice o) (root_of Subscription d) d.definitions ++ (directive_definitions (canonical_directives d) ++ definition.SchemaBlock (canonical_roots d) 0 ∷ []);
}
