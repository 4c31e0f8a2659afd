-- The text of a view is the text of a document: the one that the view shows, apart from places.
use Rattle.std.proofs.Common.{◌≡◌, true, List, [], ◌∷◌, map, Option, refl, sym, ap, subst, ◌∙◌}
use Rattle.std.specs.Str.{IsUtf8}
use Rattle.gql_text_syntax.specs.declared.syntax.Description.{Description}
use Rattle.gql_text_syntax.specs.declared.syntax.Kind.{Kind}
use Rattle.gql_text_syntax.specs.declared.syntax.Kind.TheVariants as kinds
use Rattle.gql_text_syntax.specs.declared.syntax.WrittenDefinition.{WrittenDefinition}
use Rattle.gql_text.specs.DocumentOf.{definition_of, document_of}
use Rattle.gql_text.specs.Verdict.{Spells}
use Rattle.gql_text.specs.declared.document.Definition.{Definition}
use Rattle.gql_text.specs.declared.document.Document.{Document}
use Rattle.gql_registry_meta.specs.Parts.{Text}
use Rattle.gql_sdl_readback.proofs.Lists.{AreBlank}
use Rattle.gql_sdl_view.specs.Options.{Layout}
use Rattle.gql_sdl_view.specs.Spelling.{spelled}
use Rattle.gql_sdl_view.specs.View.{View}
use Rattle.gql_sdl_rows.specs.Bare.{bare_definition}
use Rattle.gql_sdl_rows.specs.Faultless.{are_faultless}
use Rattle.gql_sdl_rows.specs.Shown.{ShowsDocument}
use Rattle.gql_sdl_rows.proofs.BareFaultless.{faultless_bare}
use Rattle.gql_sdl_rows.proofs.Definitions.{IsPlain}
use Rattle.gql_sdl_rows.proofs.Documents.{AreDefinitions, AreSound, document_says, definitions_same}
use Rattle.gql_sdl_rows.proofs.FaultlessDocuments.{are_plain, tree_faultless, document_faultless}
use Rattle.gql_sdl_rows.proofs.FaultlessParts.{is_plain}
use Rattle.gql_sdl_rows.proofs.Kept.{document_sound}
use Rattle.gql_sdl_rows.proofs.Written.{tree_written}

plain_kind : (d : Option Description) (k : Kind) → IsPlain d k → is_plain d k ≡ true
plain_kind d (kinds.Schema at uses roots) h = rw (h.0, h.1) refl
plain_kind d (kinds.Scalar key uses) h = refl
plain_kind d (kinds.Object x) h = refl
plain_kind d (kinds.Interface x) h = refl
plain_kind d (kinds.Union key uses members) h = refl
plain_kind d (kinds.Enum key uses values) h = refl
plain_kind d (kinds.Input key uses fields) h = refl
plain_kind d (kinds.Directive key arguments repeatable locations) h = refl

plain_tree : (cs : List Definition) (tree : List WrittenDefinition) → AreDefinitions cs tree → are_plain tree ≡ true
plain_tree [] [] z = refl
plain_tree [] (x ∷ xs) z = absurd z
plain_tree (c ∷ cs) [] z = absurd z
plain_tree (c ∷ cs) (x ∷ xs) z = rw (plain_kind x.description x.kind z.0.plain) (plain_tree cs xs z.1)

-- the text is that of a document with these definitions, apart from places
pub record IsReadAs (cs : List Definition) (text : Text) : Type 0 where
  pub document : Document
  pub spells : Spells document text
  pub same : map bare_definition document.definitions ≡ map bare_definition cs

-- Where a view shows sound definitions without an owner fault, its text is that of a document with these definitions,
-- apart from places.
pub view_says : (layout : Layout) → AreBlank layout.indent → (view : View) (cs : List Definition) → ShowsDocument view cs → AreSound cs → are_faultless cs ≡ true → IsUtf8 (spelled layout view) → IsReadAs cs (spelled layout view)
view_says layout a view cs s i f u =
    let read = document_says layout a view cs s i in
    let tree : List WrittenDefinition = read.tree in
    let same : map bare_definition (map definition_of tree) ≡ map bare_definition cs = definitions_same cs tree read.definitions in
    let none : are_faultless (map definition_of tree) ≡ true = sym (faultless_bare (map definition_of tree)) ∙ ap are_faultless same ∙ faultless_bare cs ∙ f in
    record {
      document = document_of tree;
      spells = record {
        utf8 = u;
        tree = tree;
        spelled = read.spelled;
        faultless = tree_faultless tree (tree_written tree (spelled layout view) read.spelled) none (plain_tree cs tree read.definitions);
        stands = refl;
      };
      same = same;
    }

-- The definitions of a document of a text are sound and have no owner fault.
pub document_is : (d : Document) (text : Text) → Spells d text → AreSound d.definitions × (are_faultless d.definitions ≡ true)
document_is d text s =
    let told = (document_faultless s.tree (tree_written s.tree text s.spelled) s.faultless).0 in
    (document_sound d text s, subst (λ (e : Document). are_faultless e.definitions ≡ true) (sym s.stands) told)
