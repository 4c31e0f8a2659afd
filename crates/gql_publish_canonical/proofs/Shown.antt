-- The view of a document shows the canonical form of the document.
use Rattle.std.proofs.Common.{◌≡◌, true, List, ◌∷◌, ◌++◌, map, Option, Some, None, refl, ap}
use Rattle.std.specs.List.{list_all}
use Rattle.gql_text_syntax.specs.declared.operation.OperationType.TheVariants.{Query, Mutation, Subscription}
use Rattle.gql_text.specs.Roots.{root_of}
use Rattle.gql_text.specs.declared.document.Document.{Document}
use Rattle.gql_text.specs.declared.document.RootLine.{RootLine}
use Rattle.gql_registry_meta.specs.Parts.{Text}
use Rattle.gql_publish_document.specs.Document.{query_root, document_view}
use Rattle.gql_sdl_view.specs.Options.{Options, document_choice}
use Rattle.gql_sdl_rows.specs.Bare.{bare_line}
use Rattle.gql_sdl_rows.specs.Faultless.{is_faultless}
use Rattle.gql_sdl_rows.specs.Shown.{root_line, optional_line, block_lines, ShowsDocument}
use Rattle.gql_sdl_rows.proofs.Parts.{IsSoundDirective}
use Rattle.gql_publish_canonical.proofs.Canonical.{canonical, canonical_types, canonical_directives, canonical_roots, ordered_directive_definitions}
use Rattle.gql_publish_canonical.proofs.Directives.{HasLocations, directives_show}
use Rattle.gql_publish_canonical.proofs.Lists.{all_weaken}
use Rattle.gql_publish_canonical.proofs.Sound.{ordered_sound}
use Rattle.gql_publish_canonical.proofs.Types.{types_show}
use Rattle.gql_sdl_rows.proofs.Documents.{AreSound}

roots_show : (o : Options) (d : Document) → map bare_line (canonical_roots d) ≡ block_lines (document_view o d)
roots_show o d = ap (λ (l : List RootLine). root_line Query (query_root d) ∷ l) (by_options (root_of Mutation d) (root_of Subscription d))
  where
    by_options : (m s : Option Text) → map bare_line (optional_line Mutation m ++ optional_line Subscription s) ≡ optional_line Mutation m ++ optional_line Subscription s
    by_options None None = refl
    by_options None (Some s) = refl
    by_options (Some m) None = refl
    by_options (Some m) (Some s) = refl

pub document_shows : (o : Options) (d : Document) → list_all (is_faultless (root_of Subscription d)) d.definitions ≡ true → AreSound d.definitions → ShowsDocument (document_view o d) (canonical o d).definitions
document_shows o d f a = record {
  types = canonical_types (document_choice o) (root_of Subscription d) d.definitions;
  directives = canonical_directives d;
  roots = canonical_roots d;
  at = 0;
  parts = refl;
  shows_types = types_show o (root_of Subscription d) d.definitions f;
  shows_directives = directives_show o d (all_weaken IsSoundDirective HasLocations (λ c s. s.locations) (ordered_directive_definitions d.definitions) (ordered_sound d.definitions a));
  shows_roots = roots_show o d;
}
