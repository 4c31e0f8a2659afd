-- What is published of a document: its canonical text, and a schema that stands for it.
use Rattle.std.specs.Prelude.{◌≡◌, ◌↔◌, ℕ, List, Result, Ok, Err, string_bytes}
use Rattle.std.specs.declared.alloc.Global.{Global}
use Rattle.gql_text.specs.declared.document.Document.{Document}
use Rattle.gql_registry_meta.specs.Parts.{Text}
use Rattle.gql_registry.specs.Registry.{Contents}
use Rattle.gql_sdl_view.specs.Options.{Options}
use Rattle.gql_sdl_view.specs.Spelling.{spell}
use Rattle.gql_publish_document.specs.Document.{document_view}
use Rattle.gql_publish_document.specs.Standing.{StandsFor}
use Rattle.gql_publish_document.specs.Verdict.{HasVerdict}

-- the canonical text of a document: the spelling of its view
abbrev pub canonical_text : Options → Document → Text
canonical_text o d = spell o (document_view o d)

-- the text is itself a valid document, with the same view
abbrev pub IsReadBack : Options → Document → Type 0
IsReadBack o d = (again : Document) × HasVerdict (canonical_text o d) (Ok again) × (document_view o again ≡ document_view o d)

-- each valid document has this text exactly where it has this view
abbrev pub TellsView : Options → Document → Type 0
TellsView o d = (bytes : List ℕ) (other : Document) → HasVerdict bytes (Ok other)
    → (canonical_text o other ≡ canonical_text o d) ↔ (document_view o other ≡ document_view o d)

-- The text is the canonical one, and what the registry holds stands for the document. The text is read again as a document
-- with this view, and tells this view.
pub record IsPublished (o : Options) (d : Document) (text : Text) (contents : Contents) : Type 0 where
  pub is : text ≡ canonical_text o d
  pub stands : StandsFor d contents
  pub read_back : IsReadBack o d
  pub one_view : TellsView o d
