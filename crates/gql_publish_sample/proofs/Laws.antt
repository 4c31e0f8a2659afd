-- Each sample text is a valid document.
use Rattle.std.proofs.Common.{◌≡◌, ◌<◌, ◌^◌, true, List, [], ◌∷◌, map, Option, refl, sym, ap, ◌∙◌, arith}
use Rattle.gql_text_syntax.specs.declared.operation.OperationType.{OperationType}
use Rattle.gql_text_syntax.specs.declared.operation.OperationType.TheVariants.{Mutation, Query, Subscription}
use Rattle.gql_text_syntax.specs.declared.syntax.Description.{Description}
use Rattle.gql_text_syntax.specs.declared.syntax.Kind.{Kind}
use Rattle.gql_text_syntax.specs.declared.syntax.Kind.TheVariants as kinds
use Rattle.gql_text_syntax.specs.declared.syntax.WrittenDefinition.{WrittenDefinition}
use Rattle.gql_text.specs.DocumentOf.{document_of}
use Rattle.gql_text.specs.Roots.{root_of}
use Rattle.gql_text.specs.Verdict.{Spells}
use Rattle.gql_text.specs.declared.document.Definition.{Definition}
use Rattle.gql_text.specs.declared.document.Document.{Document}
use Rattle.gql_sdl_rows.specs.Bare.{bare_definition, bare_document}
use Rattle.gql_sdl_rows.specs.Faultless.{are_faultless}
use Rattle.gql_sdl_rows.proofs.BareFaultless.{faultless_bare, root_bare_of}
use Rattle.gql_sdl_rows.proofs.Definitions.{IsPlain}
use Rattle.gql_sdl_rows.proofs.Documents.{AreDefinitions, IsTreeOf, definitions_same}
use Rattle.gql_sdl_rows.proofs.FaultlessDocuments.{are_plain, tree_faultless}
use Rattle.gql_sdl_rows.proofs.FaultlessParts.{is_plain}
use Rattle.gql_sdl_rows.proofs.Written.{tree_written}
use Rattle.gql_publish_canonical.proofs.BareViews.{types_bare}
use Rattle.gql_publish_document.specs.Document.{document_types}
use Rattle.gql_publish_sample.specs.Sample.{sample, AreValid}
use Rattle.gql_publish_sample.proofs.Definitions.{definitions}
use Rattle.gql_publish_sample.proofs.Faultless.{faultless, mutation_is, query_is, subscription_is}
use Rattle.gql_publish_sample.proofs.Rules.{keeps_rules}
use Rattle.gql_publish_sample.proofs.Texts.{sample_tree, sample_utf8}

plain_kind : (d : Option Description) (k : Kind) → IsPlain d k → is_plain d k ≡ true
plain_kind d (kinds.Schema at uses roots) h = rw (h.0, h.1) refl
plain_kind d (kinds.Scalar key uses) h = refl
plain_kind d (kinds.Object x) h = refl
plain_kind d (kinds.Interface x) h = refl
plain_kind d (kinds.Union key uses members) h = refl
plain_kind d (kinds.Enum key uses values) h = refl
plain_kind d (kinds.Input key uses fields) h = refl
plain_kind d (kinds.Directive key arguments repeatable locations) h = refl

plain_tree : (cs : List Definition) (tree : List WrittenDefinition) → AreDefinitions cs tree → are_plain tree ≡ true
plain_tree [] [] z = refl
plain_tree [] (x ∷ xs) z = absurd z
plain_tree (c ∷ cs) [] z = absurd z
plain_tree (c ∷ cs) (x ∷ xs) z = rw (plain_kind x.description x.kind z.0.plain) (plain_tree cs xs z.1)

-- what does not look at places is the same of two documents that differ in them alone
module _ (d e : Document) (same : map bare_definition d.definitions ≡ map bare_definition e.definitions) where
  bare_same : bare_document d ≡ bare_document e
  bare_same = ap (λ (ds : List Definition). record { definitions = ds }) same

  types_same : document_types d ≡ document_types e
  types_same = sym (types_bare d) ∙ ap document_types bare_same ∙ types_bare e

  root_same : (kind : OperationType) → root_of kind d ≡ root_of kind e
  root_same kind = sym (root_bare_of kind d.definitions) ∙ ap (root_of kind) bare_same ∙ root_bare_of kind e.definitions

  faultless_same : are_faultless d.definitions ≡ are_faultless e.definitions
  faultless_same = sym (faultless_bare d.definitions) ∙ ap are_faultless same ∙ faultless_bare e.definitions

pub are_valid : AreValid
are_valid n least most =
    let l : n < 2 ^ 64 = omega arith in
    let read : IsTreeOf (definitions n) (sample n) = sample_tree n l in
    let tree : List WrittenDefinition = read.tree in
    let given : Document = record { definitions = definitions n } in
    let d : Document = document_of tree in
    let same : map bare_definition d.definitions ≡ map bare_definition given.definitions = definitions_same (definitions n) tree read.definitions in
    let none : are_faultless d.definitions ≡ true = faultless_same d given same ∙ faultless n l in
    let spells : Spells d (sample n) = record {
      utf8 = sample_utf8 n l;
      tree = tree;
      spelled = read.spelled;
      faultless = tree_faultless tree (tree_written tree (sample n) read.spelled) none (plain_tree (definitions n) tree read.definitions);
      stands = refl;
    } in
    let kept = keeps_rules d n l (types_same d given same) (root_same d given same Query ∙ query_is n) (root_same d given same Mutation ∙ mutation_is n) (root_same d given same Subscription ∙ subscription_is n) in
    (d, (spells, kept))
