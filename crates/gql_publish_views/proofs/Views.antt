-- The view of a registry that stands for a valid document is the document's.
use Rattle.std.proofs.Common.{◌≡◌, true, List, map, Option, Ok, refl, sym, ap, subst, ◌∙◌}
use Rattle.std.specs.Prelude.{ℕ}
use Rattle.gql_text_syntax.specs.declared.operation.OperationType.TheVariants.{Subscription}
use Rattle.gql_text.specs.Roots.{root_of}
use Rattle.gql_text.specs.declared.document.Document.{Document}
use Rattle.gql_registry_meta.specs.Parts.{Text, Meta, Directive}
use Rattle.gql_registry.specs.Registry.{Contents}
use Rattle.gql_publish_document.specs.Clean.{IsClean}
use Rattle.gql_publish_document.specs.Document.{document_view, ordered_metas}
use Rattle.gql_publish_document.specs.Standing.{StandsFor}
use Rattle.gql_publish_document.specs.Verdict.{HasVerdict}
use Rattle.gql_publish_document.proofs.Cleanness.{is_clean}
use Rattle.gql_publish_shown.proofs.Implements.{implements_same}
use Rattle.gql_publish_shown.proofs.Shown.{shown_same}
use Rattle.gql_publish_shown.proofs.Viewed.{viewed_same}
use Rattle.gql_sdl_view.specs.Options.{Options, registry_choice, document_choice}
use Rattle.gql_sdl_view.specs.View.{View, viewed_type, viewed_directive, shown_types, view_of}
use Rattle.gql_publish_views.proofs.Directives.{directives_same}

-- a view of these parts
abbrev view_with : Text → Option Text → Option Text → List Meta → List (List Text) → List Directive → View
view_with query mutation subscription types implements directives = record { query = query; mutation = mutation; subscription = subscription; types = types; implements = implements; directives = directives }

views_equal : (q r : Text) (m n s t : Option Text) (ts us : List Meta) (is js : List (List Text)) (ds es : List Directive) → q ≡ r → m ≡ n → s ≡ t → ts ≡ us → is ≡ js → ds ≡ es
    → view_with q m s ts is ds ≡ view_with r n t us js es
views_equal q r m n s t ts us is js ds es a b c d e f = rw (a, b, c, d, e, f) refl

-- the options of a registry's view, which has the URLs of scalars
abbrev with_urls : Options → Options
with_urls o = record o { include_specified_by = true }

-- with the URLs of scalars
pub view_stands : (o : Options) (bytes : List ℕ) (d : Document) (contents : Contents) → HasVerdict bytes (Ok d) → StandsFor d contents → view_of (with_urls o) contents ≡ document_view o d
view_stands o bytes d contents valid stands =
    let clean : IsClean d = subst IsClean (sym valid.0.stands) (is_clean valid.0.tree valid.0.faultless) in
    let types : map (viewed_type (registry_choice (with_urls o)) contents.subscription) (shown_types contents) ≡ map (viewed_type (document_choice o) (root_of Subscription d)) (ordered_metas d) =
    ap (λ root. map (viewed_type (registry_choice (with_urls o)) root) (shown_types contents)) stands.subscription
    ∙ ap (map (viewed_type (registry_choice (with_urls o)) (root_of Subscription d))) (shown_same d contents clean valid.1 stands)
    ∙ viewed_same o bytes d valid in
    views_equal _ _ _ _ _ _ _ _ _ _ _ _ stands.query stands.mutation stands.subscription types
    (implements_same d contents clean valid.1 stands) (ap (map viewed_directive) (directives_same d contents clean stands))
