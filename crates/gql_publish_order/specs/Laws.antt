-- Laws of the canonical text of a document.
use Rattle.std.specs.Prelude.{ℕ, List, Ok}
use Rattle.std.specs.Str.{IsUtf8}
use Rattle.gql_text.specs.declared.document.Document.{Document}
use Rattle.gql_sdl_view.specs.Options.{Options}
use Rattle.gql_publish_document.specs.Published.{canonical_text, IsReadBack, TellsView}
use Rattle.gql_publish_document.specs.Verdict.{HasVerdict}

-- the canonical text of a valid document, where it is UTF-8, is a valid document with the same view
abbrev pub AreReadBack : Type 0
AreReadBack = (o : Options) (bytes : List ℕ) (d : Document) → HasVerdict bytes (Ok d) → IsUtf8 (canonical_text o d) → IsReadBack o d

-- it is the text of exactly those valid documents that have this view
abbrev pub TellViews : Type 0
TellViews = (o : Options) (bytes : List ℕ) (d : Document) → HasVerdict bytes (Ok d) → IsUtf8 (canonical_text o d) → TellsView o d
