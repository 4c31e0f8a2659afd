-- The canonical text of a valid document is a valid document with the same view, and tells the view.
use Rattle.std.proofs.Common.{◌≡◌, ℕ, List, [], map, Option, None, Ok, sym, ap, ap₂, subst, ◌∙◌}
use Rattle.std.specs.Option.{unwrap_or}
use Rattle.std.specs.Str.{IsUtf8}
use Rattle.gql_text_syntax.specs.declared.operation.OperationType.TheVariants.{Query, Mutation, Subscription}
use Rattle.gql_text.specs.Roots.{root_of}
use Rattle.gql_text.specs.Verdict.{Spells}
use Rattle.gql_text.specs.declared.document.Definition.{Definition}
use Rattle.gql_text.specs.declared.document.Document.{Document}
use Rattle.gql_registry_meta.specs.Parts.{Text}
use Rattle.gql_dynamic.specs.SchemaTypes.{TypeParts}
use Rattle.gql_check_rules.specs.Laws.{IsSortingIndependent}
use Rattle.gql_check_rules.specs.Order.{sorted_schema}
use Rattle.gql_check_rules.specs.Rules.{first_fault}
use Rattle.gql_check_rules.specs.Schema.{Schema}
use Rattle.gql_check_code.specs.Definitions.{schema}
use Rattle.gql_publish_document.specs.Clean.{IsClean}
use Rattle.gql_publish_document.specs.Document.{document_types, document_schema, entry_of}
use Rattle.gql_publish_document.specs.Published.{canonical_text, IsReadBack, TellsView}
use Rattle.gql_publish_document.specs.Verdict.{HasVerdict}
use Rattle.gql_publish_document.proofs.Cleanness.{is_clean}
use Rattle.gql_sdl_view.specs.Options.{Options}
use Rattle.gql_sdl_view.specs.Ordered.{goes_before}
use Rattle.gql_sdl_view.specs.Spelling.{spell}
use Rattle.gql_sdl_rows.specs.Bare.{bare_definition, bare_document}
use Rattle.gql_sdl_rows.proofs.BareFaultless.{root_bare_of}
use Rattle.gql_sdl_rows.proofs.ReadAgain.{document_is}
use Rattle.gql_publish_canonical.proofs.BareViews.{types_bare}
use Rattle.gql_publish_canonical.proofs.Canonical.{canonical}
use Rattle.gql_publish_canonical.proofs.FaultlessCanonical.{parts_faultless}
use Rattle.gql_publish_canonical.proofs.Published.{view_is_read}
use Rattle.gql_publish_canonical.proofs.SameView.{view_same, view_canonical, tells_view as equal_views}
use Rattle.gql_publish_order.proofs.Distinct.{clean_schema}
use Rattle.gql_publish_order.proofs.SortedTypes.{schema_same}

-- a document that is spelled is clean
clean_document : (d : Document) (text : Text) → Spells d text → IsClean d
clean_document d text s = subst IsClean (sym s.stands) (is_clean s.tree s.faultless)

-- the schema of these parts
abbrev schema_with : Option Text → Option Text → Option Text → List TypeParts → Schema
schema_with query mutation subscription types = schema (record { types = map entry_of types; query = unwrap_or query []; mutation = mutation; subscription = subscription })

-- the rules do not look at places
schema_bare : (d : Document) → document_schema (bare_document d) ≡ document_schema d
schema_bare d =
    ap₂ (λ (q m : Option Text). schema_with q m (root_of Subscription (bare_document d)) (document_types (bare_document d))) (root_bare_of Query d.definitions) (root_bare_of Mutation d.definitions)
    ∙ ap₂ (λ (s : Option Text) (ts : List TypeParts). schema_with (root_of Query d) (root_of Mutation d) s ts) (root_bare_of Subscription d.definitions) (types_bare d)

schemas_same : (d e : Document) → map bare_definition d.definitions ≡ map bare_definition e.definitions → document_schema d ≡ document_schema e
schemas_same d e same = sym (schema_bare d) ∙ ap (λ (ds : List Definition). document_schema (record { definitions = ds })) same ∙ schema_bare e

-- what is read again breaks no rule
keeps_rules : IsSortingIndependent first_fault → (o : Options) (d e : Document) (a b : Text) → Spells d a → Spells e b → map bare_definition e.definitions ≡ map bare_definition (canonical o d).definitions → first_fault (document_schema d) ≡ None
    → first_fault (document_schema e) ≡ None
keeps_rules law o d e a b s t same none =
    let sorted = (law goes_before (document_schema d) (clean_schema d (clean_document d a s))).0 none in
    let facts = document_is d a s in
    let equal : sorted_schema goes_before (document_schema d) ≡ sorted_schema goes_before (document_schema e) = sym (schema_same o d (parts_faultless d facts.1).each) ∙ ap (sorted_schema goes_before) (sym (schemas_same e (canonical o d) same)) in
    (law goes_before (document_schema e) (clean_schema e (clean_document e b t))).1 (subst (λ (x : Schema). first_fault x ≡ None) equal sorted)

-- The canonical text of a valid document is a valid document with the same view.
pub read_back : IsSortingIndependent first_fault → (o : Options) (bytes : List ℕ) (d : Document) → HasVerdict bytes (Ok d) → IsUtf8 (canonical_text o d) → IsReadBack o d
read_back law o bytes d v u =
    let read = view_is_read o d bytes v.0 u in (
      read.document,
      (read.spells, keeps_rules law o d read.document bytes (canonical_text o d) v.0 read.spells read.same v.1),
      view_same o read.document (canonical o d) read.same ∙ view_canonical o d,
    )

-- Each valid document has this text exactly where it has this view.
pub tells_view : (o : Options) (bytes : List ℕ) (d : Document) → HasVerdict bytes (Ok d) → IsUtf8 (canonical_text o d) → TellsView o d
tells_view o bytes d v u other_bytes other w = (
  λ same. equal_views o other d other_bytes bytes w.0 v.0 (subst IsUtf8 (sym same) u) u same,
  λ same. ap (spell o) same,
)
