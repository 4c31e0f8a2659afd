-- What a document says as a whole: its types and directives in document order, its roots, what the rules of a schema look
-- at in it, and its view. Section 3 of the GraphQL specification, October 2021.
use Rattle.std.specs.Prelude.{Bool, true, false, not, List, [], map, ◌++◌}
use Rattle.std.specs.List.{filter, filter_map}
use Rattle.std.specs.Option.{unwrap_or}
use Rattle.gql_text_syntax.specs.declared.operation.OperationType.TheVariants.{Query, Mutation, Subscription}
use Rattle.gql_text.specs.Roots.{root_of}
use Rattle.gql_text.specs.declared.document.Document.{Document}
use Rattle.gql_registry_meta.specs.Parts.{Text, Meta, Directive, is_among}
use Rattle.gql_registry.specs.System.{system_directives}
use Rattle.gql_dynamic.specs.SchemaTypes.{TypeParts, type_name, type_meta, interfaces}
use Rattle.gql_check_rules.specs.Schema.{Schema}
use Rattle.gql_check_code.specs.Definitions.{SchemaParts, schema}
use Rattle.gql_check.specs.Recorded.{Recorded}
use Rattle.gql_sdl_view.specs.Options.{Options, document_choice}
use Rattle.gql_sdl_view.specs.Ordered.{arranged}
use Rattle.gql_sdl_view.specs.View.{View, Roots, assembled}
use Rattle.gql_publish_document.specs.Types.{type_in, directive_in}

-- the types, in document order
abbrev pub document_types : Document → List TypeParts
document_types d = filter_map (type_in (root_of Subscription d)) d.definitions

-- the definitions of directives, in document order
abbrev pub document_directives : Document → List Directive
document_directives d = filter_map directive_in d.definitions

-- the name of the query root; a valid document has one
abbrev pub query_root : Document → Text
query_root d = unwrap_or (root_of Query d) []

-- a type under its name
abbrev pub entry_of : TypeParts → Text × TypeParts
entry_of type = (type_name type, type)

-- the types, each under its name, and the roots
abbrev pub document_parts : Document → SchemaParts
document_parts d = record {
  types = map entry_of (document_types d);
  query = query_root d;
  mutation = root_of Mutation d;
  subscription = root_of Subscription d;
}

-- what the rules of a schema look at in a document
abbrev pub document_schema : Document → Schema
document_schema d = schema (document_parts d)

-- what the builder of a schema records of a document
abbrev pub document_recorded : Document → Recorded
document_recorded d = record { schema = document_parts d; directives = document_directives d; is_disabled = false }

-- ---- the view

-- the names of the roots
abbrev pub document_roots : Document → Roots
document_roots d = record { query = query_root d; mutation = root_of Mutation d; subscription = root_of Subscription d }

-- the types in name order
abbrev pub ordered_types : Document → List TypeParts
ordered_types d = arranged type_name true (document_types d)

-- the types that are registered for them
abbrev pub ordered_metas : Document → List Meta
ordered_metas d = map type_meta (ordered_types d)

-- the system's directive of a name that the document does not define
abbrev pub is_added : Document → Directive → Bool
is_added d system = not (is_among system.name (map (λ own. own.name) (document_directives d)))

-- the directive definitions in name order: the document's, and the system's where it has none of the name
abbrev pub ordered_directives : Document → List Directive
ordered_directives d = arranged (λ directive. directive.name) true (document_directives d ++ filter (is_added d) system_directives)

-- The view of a document under options: the roots; the types in name order, with the names that each implements; the
-- directive definitions in name order.
abbrev pub document_view : Options → Document → View
document_view o d = assembled (document_choice o) (document_roots d) (ordered_metas d) (ordered_metas d) (map interfaces (ordered_types d)) (ordered_directives d)
