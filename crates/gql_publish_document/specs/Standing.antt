-- When what a registry holds stands for a document: what stands there under each name is what the document gives, or else
-- what every schema has.
use Rattle.std.specs.Prelude.{◌≡◌, Bool, true, List, [], ◌∷◌, ◌++◌, Option, map}
use Rattle.std.specs.List.{list_all}
use Rattle.std.specs.Option.{option_map, option_map_or, option_or}
use Rattle.std.specs.Map.{keys_of}
use Rattle.std.specs.Str.{bytes_eq}
use Rattle.gql_text_syntax.specs.declared.operation.OperationType.TheVariants.{Mutation, Subscription}
use Rattle.gql_text.specs.Roots.{root_of}
use Rattle.gql_text.specs.declared.document.Document.{Document}
use Rattle.gql_registry_meta.specs.Parts.{Text, at_text, Meta, object, name_of, Directive}
use Rattle.gql_registry_meta.specs.declared.introspection_mode.IntrospectionMode.TheVariants.{Enabled}
use Rattle.gql_registry.specs.Plain.{fields}
use Rattle.gql_registry.specs.Registry.{Contents, implements_listed}
use Rattle.gql_registry.specs.System.{system_directives, system_scalars}
use Rattle.gql_registry.specs.Introspection.{introspection_types, query_fields}
use Rattle.gql_dynamic.specs.SchemaTypes.{TypeParts, type_name, type_meta, interfaces}
use Rattle.gql_check.specs.Implementers.{implementers, possible_among}
use Rattle.gql_sdl_view.specs.Ordered.{goes_before}
use Rattle.gql_publish_document.specs.Document.{document_parts, document_directives, query_root}

-- each name goes before all that follow
abbrev pub IsAscending : List Text → Type 0
IsAscending [] = Unit {0}
IsAscending (name ∷ names) = (list_all (goes_before name) names ≡ true) × IsAscending names

-- the query root has the fields that lead to introspection after its own
abbrev pub with_query_fields : Bool → Meta → Meta
with_query_fields true (object type) = object (record type { fields = type.fields ++ fields query_fields })
with_query_fields _ type = type

-- What is registered for a type of the document. The possible types of an interface are the objects that declare it, in
-- document order.
abbrev pub registered : Document → TypeParts → Meta
registered d type = with_query_fields (bytes_eq (type_name type) (query_root d)) (possible_among (implementers (type_name type) (document_parts d)) (type_meta type))

-- the system scalars and the introspection types, by name
abbrev pub own_types : List (Text × Meta)
own_types = map (λ type. (name_of type, type)) (system_scalars ++ introspection_types)

-- the type of a name
abbrev pub type_under : Document → Text → Option Meta
type_under d name = option_or (option_map (registered d) (at_text name (document_parts d).types)) (at_text name own_types)

-- directives, by name
abbrev pub by_name : List Directive → List (Text × Directive)
by_name directives = map (λ directive. (directive.name, directive)) directives

-- the definition of a directive of a name: the document's, or else the system's
abbrev pub directive_under : Document → Text → Option Directive
directive_under d name = option_or (at_text name (by_name (document_directives d))) (at_text name (by_name system_directives))

-- the names that the type of a name implements, in document order
abbrev pub implements_under : Document → Text → List Text
implements_under d name = option_map_or interfaces (at_text name (document_parts d).types) []

-- what a registry holds stands for a document
pub record StandsFor (d : Document) (contents : Contents) : Type 0 where
  pub types : (name : Text) → at_text name contents.types ≡ type_under d name
  pub types_ascend : IsAscending (keys_of contents.types)
  pub directives : (name : Text) → at_text name contents.directives ≡ directive_under d name
  pub directives_ascend : IsAscending (keys_of contents.directives)
  pub implements : (name : Text) → implements_listed name contents.implements ≡ implements_under d name
  pub query : contents.query ≡ query_root d
  pub mutation : contents.mutation ≡ root_of Mutation d
  pub subscription : contents.subscription ≡ root_of Subscription d
  pub mode : contents.introspection ≡ Enabled
