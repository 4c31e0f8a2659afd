-- What was printed, by the options and by what the registry holds; and what is published.
use Rattle.std.proofs.Common.{◌≡◌, List, ℕ, Result, Ok, Err, IfOk, ap, subst, ◌∙◌}
use Rattle.gql_text_lexer.specs.declared.error.OutOfMemory.{OutOfMemory}
use Rattle.std.specs.Prelude.{true, string_bytes}
use Rattle.std.specs.Str.{IsUtf8}
use Rattle.std.specs.declared.string.String.{String}
use Rattle.std.specs.declared.alloc.Global.{Global}
use Rattle.std.proofs.lemmas.Str.{IsUtf8-string_bytes}
use Rattle.gql_text.specs.declared.document.Document.{Document}
use Rattle.gql_registry.specs.Registry.{Contents}
use Rattle.gql_sdl_view.specs.Options.{Options}
use Rattle.gql_sdl_view.specs.Spelling.{spell}
use Rattle.gql_sdl_view.specs.View.{view_of}
use Rattle.gql_publish_document.specs.Published.{canonical_text, IsPublished}
use Rattle.gql_publish_document.specs.Standing.{StandsFor}
use Rattle.gql_publish_document.specs.Verdict.{HasVerdict}
use Rattle.gql_publish_order.specs.Laws.{AreReadBack, TellViews}
use Rattle.gql_publish_views.specs.Laws.{ViewsStand}
use Rattle.gql_publish_load.specs.Publishing.{registry_spelling}

pub printed : (r : Result (String Global) OutOfMemory) (o asked : Options) (contents held : Contents) → asked ≡ record o { include_specified_by = true } → held ≡ contents
    → IfOk r (λ text. string_bytes text ≡ spell asked (view_of asked held)) → IfOk r (λ text. string_bytes text ≡ registry_spelling o contents)
printed (Ok text) o asked contents held e f h =
    h ∙ ap (λ (x : Options). spell x (view_of x held)) e ∙ ap (λ (x : Contents). spell o (view_of (record o { include_specified_by = true }) x)) f
printed (Err error) o asked contents held e f h = tt

-- the spelling of a registry that stands for a valid document is published of it
pub published : ViewsStand → AreReadBack → TellViews → (o : Options) (bytes : List ℕ) (d : Document) (text : String Global) (contents : Contents)
    → HasVerdict bytes (Ok d) → StandsFor d contents → string_bytes text ≡ registry_spelling o contents → IsPublished o d (string_bytes text) contents
published views back tells o bytes d text contents valid stands e =
    let is : string_bytes text ≡ canonical_text o d = e ∙ ap (spell o) (views o bytes d contents valid stands) in
    let utf8 : IsUtf8 (canonical_text o d) = subst IsUtf8 is (IsUtf8-string_bytes text) in
    record { is = is; stands = stands; read_back = back o bytes d valid utf8; one_view = tells o bytes d valid utf8 }
