-- What is recorded of the definitions of a document, one after another, and what the answers of the loader say.
use Rattle.std.specs.Prelude.{◌≡◌, List, ◌++◌, Option, Some, Result, Ok, Err, map}
use Rattle.std.specs.List.{filter_map}
use Rattle.std.specs.Map.{keys_of}
use Rattle.gql_text.specs.declared.document.Document.{Document}
use Rattle.gql_text.specs.declared.document.Definition.{Definition}
use Rattle.gql_registry_meta.specs.Parts.{Text}
use Rattle.gql_dynamic.specs.SchemaTypes.{TypeParts, type_name}
use Rattle.gql_check_rules.specs.Rules.{first_fault}
use Rattle.gql_registry.specs.Registry.{Contents}
use Rattle.gql_check.specs.Recorded.{Recorded, schema_contents, with_last_type}
use Rattle.gql_check.specs.Recordings.{recorded_in}
use Rattle.gql_check.specs.declared.schema.Schema.{Schema}
use Rattle.gql_publish_document.specs.Types.{type_in, directive_in}
use Rattle.gql_publish_document.specs.Clean.{AreDistinct}
use Rattle.gql_publish_document.specs.Document.{document_schema, document_recorded, entry_of}
use Rattle.gql_publish_document.specs.Standing.{StandsFor}
use Rattle.gql_publish_document.specs.Verdict.{Refusal, unreadable, broken, Verdict}
use Rattle.gql_publish_load.specs.declared.error.PublishError.{PublishError}
use Rattle.gql_publish_load.specs.Errors.{Refuses}

-- a type more
abbrev pub with_type : Recorded → TypeParts → Recorded
with_type recorded type = record recorded { schema = with_last_type type recorded.schema }

-- the types and the directives of these definitions more
abbrev pub recorded_with : (subscription : Option Text) → Recorded → List Definition → Recorded
recorded_with subscription recorded definitions = record recorded {
  schema = record recorded.schema { types = recorded.schema.types ++ map entry_of (filter_map (type_in subscription) definitions) };
  directives = recorded.directives ++ filter_map directive_in definitions;
}

-- a document is refused for this reason: its first broken rule
abbrev pub IsRefusedFor : Document → Refusal → Type 0
IsRefusedFor d (unreadable error) = ⊥
IsRefusedFor d (broken fault) = first_fault (document_schema d) ≡ Some fault

-- what the registry of a schema holds: this is what `Schema::registry` lends
abbrev pub contents_of : {x g : _} → Schema x g → Contents
contents_of schema = schema_contents (recorded_in schema)

-- the schema is built of the document, and its registry stands for it
pub record IsLoadedOf {x g : _} (d : Document) (schema : Schema x g) : Type 0 where
  pub recorded : recorded_in schema ≡ document_recorded d
  pub stands : StandsFor d (contents_of schema)

-- The answer is what the verdict says, unless memory runs out: a schema that is built of the document, or the refusal.
abbrev pub Answers : {x g : _} → Verdict → Result (Schema x g) PublishError → Type 0
Answers verdict (Ok schema) = (d : Document) × (verdict ≡ Ok d) × IsLoadedOf d schema
Answers verdict (Err error) = Refuses (λ refusal. verdict ≡ Err refusal) error

-- The types that these definitions define have names that are not recorded, and no two have one name.
abbrev pub AreNewTypes : (subscription : Option Text) → Recorded → List Definition → Type 0
AreNewTypes subscription recorded definitions = AreDistinct (keys_of recorded.schema.types ++ map type_name (filter_map (type_in subscription) definitions))
