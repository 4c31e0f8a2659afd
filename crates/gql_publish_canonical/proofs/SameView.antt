-- The canonical form of a document has the view of the document, and so has what its text is read as.
use Rattle.std.proofs.Common.{◌≡◌, List, [], map, Option, refl, sym, ap, subst, ◌∙◌}
use Rattle.std.specs.Option.{unwrap_or}
use Rattle.std.specs.Str.{IsUtf8}
use Rattle.gql_text_syntax.specs.declared.operation.OperationType.TheVariants.{Subscription}
use Rattle.gql_text.specs.DocumentOf.{document_of}
use Rattle.gql_text.specs.Roots.{root_of}
use Rattle.gql_text.specs.Verdict.{Spells}
use Rattle.gql_text.specs.declared.document.Definition.{Definition}
use Rattle.gql_text.specs.declared.document.Document.{Document}
use Rattle.gql_registry_meta.specs.Parts.{Text, Directive, Meta}
use Rattle.gql_publish_document.specs.Document.{ordered_metas, query_root, document_view}
use Rattle.gql_sdl_readback.proofs.Whole.{one_tree}
use Rattle.gql_sdl_view.specs.Options.{Options, document_choice}
use Rattle.gql_sdl_view.specs.Spelling.{spell}
use Rattle.gql_sdl_view.specs.View.{View, viewed_type}
use Rattle.gql_sdl_rows.specs.Bare.{bare_definition}
use Rattle.gql_publish_canonical.proofs.BareViews.{view_bare}
use Rattle.gql_publish_canonical.proofs.Canonical.{canonical}
use Rattle.gql_publish_canonical.proofs.FaultlessCanonical.{canonical_query, canonical_mutation, canonical_subscription}
use Rattle.gql_publish_canonical.proofs.Published.{view_is_read}
use Rattle.gql_publish_canonical.proofs.SameDirectives.{directives_same}
use Rattle.gql_publish_canonical.proofs.SameTypes.{views_same, implements_same}

-- a view of these parts
abbrev view_of : Text → Option Text → Option Text → List Meta → List (List Text) → List Directive → View
view_of query mutation subscription types lists directives = record {
  query = query;
  mutation = mutation;
  subscription = subscription;
  types = types;
  implements = lists;
  directives = directives;
}

view_made : (q r : Text) (m n s t : Option Text) (types others : List Meta) (lists more : List (List Text)) (directives given : List Directive) → q ≡ r → m ≡ n → s ≡ t → types ≡ others → lists ≡ more → directives ≡ given
    → view_of q m s types lists directives ≡ view_of r n t others more given
view_made q r m n s t types others lists more directives given a b c d e f = rw (a, b, c, d, e, f) refl

-- the view of the canonical form
pub view_canonical : (o : Options) (d : Document) → document_view o (canonical o d) ≡ document_view o d
view_canonical o d =
    let query : query_root (canonical o d) ≡ query_root d = ap (λ (r : Option Text). unwrap_or r []) (canonical_query o d) in
    let types : map (viewed_type (document_choice o) (root_of Subscription (canonical o d))) (ordered_metas (canonical o d)) ≡ map (viewed_type (document_choice o) (root_of Subscription d)) (ordered_metas d) =
    ap (λ (r : Option Text). map (viewed_type (document_choice o) r) (ordered_metas (canonical o d))) (canonical_subscription o d) ∙ views_same o d in
    view_made _ _ _ _ _ _ _ _ _ _ _ _ query (canonical_mutation o d) (canonical_subscription o d) types (implements_same o d) (directives_same o d)

-- documents with the same definitions, apart from places, have the same view
pub view_same : (o : Options) (d e : Document) → map bare_definition d.definitions ≡ map bare_definition e.definitions → document_view o d ≡ document_view o e
view_same o d e same = sym (view_bare o d) ∙ ap (λ (ds : List Definition). document_view o (record { definitions = ds })) same ∙ view_bare o e

-- the text is that of a document with this view
pub record IsReadBack (o : Options) (view : View) (text : Text) : Type 0 where
  pub document : Document
  pub spells : Spells document text
  pub same : document_view o document ≡ view

-- The text of the view of a document is that of a document with the same view.
pub read_back : (o : Options) (d : Document) (text : Text) → Spells d text → IsUtf8 (spell o (document_view o d)) → IsReadBack o (document_view o d) (spell o (document_view o d))
read_back o d text s u =
    let read = view_is_read o d text s u in
    record { document = read.document; spells = read.spells; same = view_same o read.document (canonical o d) read.same ∙ view_canonical o d }

-- a text spells one document
pub one_document : (text : Text) (d e : Document) → Spells d text → Spells e text → d ≡ e
one_document text d e s t = s.stands ∙ ap document_of (one_tree text s.tree t.tree s.spelled t.spelled) ∙ sym t.stands

-- Equal texts come from equal views.
pub tells_view : (o : Options) (d e : Document) (a b : Text) → Spells d a → Spells e b → IsUtf8 (spell o (document_view o d)) → IsUtf8 (spell o (document_view o e)) → spell o (document_view o d) ≡ spell o (document_view o e)
    → document_view o d ≡ document_view o e
tells_view o d e a b s t u w same =
    let left = read_back o d a s u in
    let right = read_back o e b t w in
    let one : left.document ≡ right.document = one_document (spell o (document_view o e)) left.document right.document (subst (Spells left.document) same left.spells) right.spells in
    sym left.same ∙ ap (document_view o) one ∙ right.same
