-- What the answers of the publisher say.
use Rattle.std.specs.Prelude.{◌≡◌, true, Result, Ok, Err, string_bytes}
use Rattle.gql_text.specs.declared.document.Document.{Document}
use Rattle.gql_registry_meta.specs.Parts.{Text}
use Rattle.gql_registry.specs.Registry.{Contents}
use Rattle.gql_sdl_view.specs.Options.{Options}
use Rattle.gql_sdl_view.specs.Spelling.{spell}
use Rattle.gql_sdl_view.specs.View.{view_of}
use Rattle.gql_publish_document.specs.Published.{IsPublished}
use Rattle.gql_publish_document.specs.Verdict.{Verdict}
use Rattle.gql_publish_load.specs.declared.error.PublishError.{PublishError}
use Rattle.gql_publish_load.specs.declared.publishing.Published.{Published}
use Rattle.gql_publish_load.specs.Errors.{Refuses}
use Rattle.gql_publish_load.specs.Loading.{contents_of}

-- what a registry holds, with the URLs of scalars, as it is spelled under options
abbrev pub registry_spelling : Options → Contents → Text
registry_spelling o contents = spell o (view_of (record o { include_specified_by = true }) contents)

-- The text that is published of a document is its canonical text, and the schema's registry stands for the document. The
-- text is read again as a document with the same view, and tells this view.
abbrev pub Publishes : {x g : _} → Options → Document → Published x g → Type 0
Publishes o d published = IsPublished o d (string_bytes published.text) (contents_of published.schema)

-- The answer is what the verdict says, unless memory runs out: what is published of the document, or the refusal.
abbrev pub AnswersPublished : {x g : _} → Options → Verdict → Result (Published x g) PublishError → Type 0
AnswersPublished o verdict (Ok published) = (d : Document) × (verdict ≡ Ok d) × Publishes o d published
AnswersPublished o verdict (Err error) = Refuses (λ refusal. verdict ≡ Err refusal) error
