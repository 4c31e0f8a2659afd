-- The clauses of the canonical text, from those of the reader and of the rules.
use Rattle.std.proofs.Common.{◌≡◌, ℕ, List, None, Result, Ok, Err, IfOk, IfErr, subst}
use Rattle.std.specs.Prelude.{OnOk, string_bytes}
use Rattle.std.specs.Str.{IsUtf8}
use Rattle.std.specs.declared.string.String.{String}
use Rattle.std.specs.declared.alloc.Global.{Global}
use Rattle.std.proofs.lemmas.Str.{IsUtf8-string_bytes}
use Rattle.gql_text.specs.declared.document.Document.{Document}
use Rattle.gql_text.specs.Verdict.{Spells}
use Rattle.gql_check_rules.specs.Rules.{first_fault}
use Rattle.gql_sdl_view.specs.Options.{Options}
use Rattle.gql_publish_document.specs.Document.{document_schema}
use Rattle.gql_publish_document.specs.Published.{canonical_text}
use Rattle.gql_publish_document.specs.Verdict.{Verdict, HasVerdict}
use Rattle.gql_publish_document.proofs.OneVerdict.{one_verdict}
use Rattle.gql_publish_order.specs.Laws.{AreReadBack, TellViews}
use Rattle.gql_publish_load.specs.declared.error.PublishError.{PublishError}
use Rattle.gql_publish_load.specs.Canonical.{AnswersText, IsCanonical}
use Rattle.gql_publish_load.specs.Errors.{Refuses}
use Rattle.gql_publish_load.specs.Loading.{IsRefusedFor}
use Rattle.gql_publish_load.proofs.Loaded.{refused_for, refuses_so}

canonical : AreReadBack → TellViews → (o : Options) (bytes : List ℕ) (d : Document) (text : String Global) → HasVerdict bytes (Ok d) → string_bytes text ≡ canonical_text o d → IsCanonical o d (string_bytes text)
canonical back tells o bytes d text valid is =
    let utf8 : IsUtf8 (canonical_text o d) = subst IsUtf8 is (IsUtf8-string_bytes text) in
    record { is = is; read_back = back o bytes d valid utf8; one_view = tells o bytes d valid utf8 }

module _ (back : AreReadBack) (tells : TellViews) (o : Options) (bytes : List ℕ) (d : Document) (spelled : Spells d bytes) where
  pub published_there : (r : Result (String Global) PublishError) → OnOk r (first_fault (document_schema d) ≡ None) → IfOk r (λ text. string_bytes text ≡ canonical_text o d)
      → IfOk r (λ text. (d : Document) × HasVerdict bytes (Ok d) × IsCanonical o d (string_bytes text))
  published_there (Ok text) valid is = (d, (spelled, valid), canonical back tells o bytes d text (spelled, valid) is)
  published_there (Err error) valid is = tt

  pub exactly_there : (r : Result (String Global) PublishError) → OnOk r (first_fault (document_schema d) ≡ None) → IfOk r (λ text. string_bytes text ≡ canonical_text o d) → IfErr r (Refuses (IsRefusedFor d))
      → (verdict : Verdict) → HasVerdict bytes verdict → AnswersText o verdict r
  exactly_there (Ok text) valid is refused verdict h = (d, one_verdict bytes verdict (Ok d) h (spelled, valid), canonical back tells o bytes d text (spelled, valid) is)
  exactly_there (Err error) valid is refused verdict h =
      refuses_so (IsRefusedFor d) (λ refusal. verdict ≡ Err refusal) (λ refusal k. one_verdict bytes verdict (Err refusal) h (refused_for bytes d spelled refusal k)) error refused

pub refused_there : (bytes : List ℕ) (d : Document) → Spells d bytes → (r : Result (String Global) PublishError) → IfErr r (Refuses (IsRefusedFor d)) → IfErr r (Refuses (λ refusal. HasVerdict bytes (Err refusal)))
refused_there bytes d spelled (Ok text) refused = tt
refused_there bytes d spelled (Err error) refused = refuses_so (IsRefusedFor d) (λ refusal. HasVerdict bytes (Err refusal)) (λ refusal k. refused_for bytes d spelled refusal k) error refused
