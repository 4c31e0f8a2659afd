-- The law of the views of registries that stand for documents.
use Rattle.std.specs.Prelude.{◌≡◌, ℕ, true, List, Ok}
use Rattle.gql_text.specs.declared.document.Document.{Document}
use Rattle.gql_registry.specs.Registry.{Contents}
use Rattle.gql_publish_document.specs.Document.{document_view}
use Rattle.gql_publish_document.specs.Standing.{StandsFor}
use Rattle.gql_publish_document.specs.Verdict.{HasVerdict}
use Rattle.gql_sdl_view.specs.Options.{Options}
use Rattle.gql_sdl_view.specs.View.{view_of}

-- the view of a registry that stands for a valid document, with the URLs of its scalars, is the view of the document
abbrev pub ViewsStand : Type 0
ViewsStand = (o : Options) (bytes : List ℕ) (d : Document) (contents : Contents)
    → HasVerdict bytes (Ok d) → StandsFor d contents
    → view_of (record o { include_specified_by = true }) contents ≡ document_view o d
