-- The clauses of what is loaded, from those of the reader and of the schema.
use Rattle.std.proofs.Common.{◌≡◌, ℕ, List, Some, None, Result, Ok, Err, IfOk, IfErr, sym, subst}
use Rattle.std.specs.Prelude.{◌≢◌, OnOk, IsSomeAnd}
use Rattle.std.specs.declared.option.Option.{Option}
use Rattle.gql_text_syntax.specs.declared.error.ReadError.{ReadError}
use Rattle.gql_text_syntax.specs.declared.error.ReadError.TheVariants as read_error
use Rattle.gql_text.specs.declared.document.Document.{Document}
use Rattle.gql_text.specs.Verdict.{Spells, IsFault}
use Rattle.gql_dynamic.specs.Errors.{fault_of}
use Rattle.gql_check_rules.specs.Faults.{Fault}
use Rattle.gql_check_rules.specs.Rules.{first_fault}
use Rattle.gql_check.specs.Recorded.{Recorded, schema_contents}
use Rattle.gql_check.specs.Recordings.{recorded_in}
use Rattle.gql_check.specs.declared.schema.Schema.{Schema}
use Rattle.gql_publish_document.specs.Clean.{IsClean}
use Rattle.gql_publish_document.specs.Document.{document_schema, document_recorded}
use Rattle.gql_publish_document.specs.Standing.{StandsFor}
use Rattle.gql_publish_document.specs.Verdict.{Refusal, unreadable, broken, Verdict, HasVerdict}
use Rattle.gql_publish_document.proofs.Cleanness.{is_clean}
use Rattle.gql_publish_document.proofs.OneVerdict.{one_verdict}
use Rattle.gql_publish_load.specs.declared.error.PublishError.{PublishError}
use Rattle.gql_publish_load.specs.declared.error.PublishError.TheVariants as publish_error
use Rattle.gql_publish_load.specs.Errors.{Refuses, read_as}
use Rattle.gql_publish_load.specs.Loading.{Answers, IsLoadedOf, IsRefusedFor}
use Rattle.gql_publish_standing.proofs.Stands.{stands}

pub clean_document : (bytes : List ℕ) (d : Document) → Spells d bytes → IsClean d
clean_document bytes d s = subst IsClean (sym s.stands) (is_clean s.tree s.faultless)

-- what a refusal tells more
pub refuses_so : (P Q : Refusal → Type 0) → ((r : Refusal) → P r → Q r) → (error : PublishError) → Refuses P error → Refuses Q error
refuses_so P Q f (publish_error.NotUtf8 at) h = f _ h
refuses_so P Q f (publish_error.Syntax at) h = f _ h
refuses_so P Q f (publish_error.TooDeep at) h = f _ h
refuses_so P Q f (publish_error.NumberRange at) h = f _ h
refuses_so P Q f (publish_error.Unsupported w at) h = f _ h
refuses_so P Q f (publish_error.Duplicate name at) h = f _ h
refuses_so P Q f (publish_error.ReservedName name at) h = f _ h
refuses_so P Q f (publish_error.Schema error) h = by (fault_of error) h
  where
    by : (o : Option Fault) → IsSomeAnd o (λ fault. P (broken fault)) → IsSomeAnd o (λ fault. Q (broken fault))
    by None h = h
    by (Some fault) h = f (broken fault) h
refuses_so P Q f publish_error.OutOfMemory h = tt

-- ---- bytes that spell a document

module _ (bytes : List ℕ) (d : Document) (spelled : Spells d bytes) where
  pub refused_for : (refusal : Refusal) → IsRefusedFor d refusal → HasVerdict bytes (Err refusal)
  refused_for (unreadable error) h = absurd h
  refused_for (broken fault) h = (d, spelled, h)

  loaded : {x g : _} (schema : Schema x g) → first_fault (document_schema d) ≡ None → recorded_in schema ≡ document_recorded d → IsLoadedOf d schema
  loaded schema valid recorded = record { recorded = recorded; stands = subst (λ (r : Recorded). StandsFor d (schema_contents r)) (sym recorded) (stands bytes d (spelled, valid)) }

  pub valid_there : {x g : _} (r : Result (Schema x g) PublishError) → OnOk r (first_fault (document_schema d) ≡ None) → IfOk r (λ schema. recorded_in schema ≡ document_recorded d)
      → IfOk r (λ schema. (d : Document) × HasVerdict bytes (Ok d) × IsLoadedOf d schema)
  valid_there (Ok schema) valid recorded = (d, (spelled, valid), loaded schema valid recorded)
  valid_there (Err error) valid recorded = tt

  pub only_there : {x g : _} (r : Result (Schema x g) PublishError) → OnOk r (first_fault (document_schema d) ≡ None) → IfOk r (λ schema. recorded_in schema ≡ document_recorded d) → IfErr r (Refuses (IsRefusedFor d))
      → (verdict : Verdict) → HasVerdict bytes verdict → Answers verdict r
  only_there (Ok schema) valid recorded refused verdict h = (d, one_verdict bytes verdict (Ok d) h (spelled, valid), loaded schema valid recorded)
  only_there (Err error) valid recorded refused verdict h =
      refuses_so (IsRefusedFor d) (λ refusal. verdict ≡ Err refusal) (λ refusal k. one_verdict bytes verdict (Err refusal) h (refused_for refusal k)) error refused

-- ---- bytes that the reader refuses

pub read_refused : (bytes : List ℕ) (error : ReadError) (answer : PublishError) → (error ≢ read_error.OutOfMemory → IsFault bytes error) → answer ≡ read_as error
    → Refuses (λ refusal. HasVerdict bytes (Err refusal)) answer
read_refused bytes (read_error.NotUtf8 at) answer h is = subst (Refuses (λ refusal. HasVerdict bytes (Err refusal))) (sym is) (h (λ e. cc))
read_refused bytes (read_error.Syntax at) answer h is = subst (Refuses (λ refusal. HasVerdict bytes (Err refusal))) (sym is) (h (λ e. cc))
read_refused bytes (read_error.TooDeep at) answer h is = subst (Refuses (λ refusal. HasVerdict bytes (Err refusal))) (sym is) (h (λ e. cc))
read_refused bytes (read_error.NumberRange at) answer h is = subst (Refuses (λ refusal. HasVerdict bytes (Err refusal))) (sym is) (h (λ e. cc))
read_refused bytes (read_error.Unsupported w at) answer h is = subst (Refuses (λ refusal. HasVerdict bytes (Err refusal))) (sym is) (h (λ e. cc))
read_refused bytes (read_error.Duplicate name at) answer h is = subst (Refuses (λ refusal. HasVerdict bytes (Err refusal))) (sym is) (h (λ e. cc))
read_refused bytes (read_error.ReservedName name at) answer h is = subst (Refuses (λ refusal. HasVerdict bytes (Err refusal))) (sym is) (h (λ e. cc))
read_refused bytes read_error.OutOfMemory answer h is = subst (Refuses (λ refusal. HasVerdict bytes (Err refusal))) (sym is) tt

pub read_only : (bytes : List ℕ) (error : ReadError) (answer : PublishError) → (error ≢ read_error.OutOfMemory → IsFault bytes error) → answer ≡ read_as error
    → (verdict : Verdict) → HasVerdict bytes verdict → Refuses (λ refusal. verdict ≡ Err refusal) answer
read_only bytes error answer h is verdict k =
    refuses_so (λ refusal. HasVerdict bytes (Err refusal)) (λ refusal. verdict ≡ Err refusal) (λ refusal j. one_verdict bytes verdict (Err refusal) k j) answer (read_refused bytes error answer h is)
