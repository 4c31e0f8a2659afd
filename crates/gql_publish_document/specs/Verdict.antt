-- The verdict on the bytes of a schema document: the valid document that they are, or the first reason why they are none.
use Rattle.std.specs.Prelude.{◌≡◌, List, ℕ, None, Some, Result, Ok, Err}
use Rattle.gql_text_syntax.specs.declared.error.ReadError.{ReadError}
use Rattle.gql_text.specs.declared.document.Document.{Document}
use Rattle.gql_text.specs.Verdict.{Spells, IsFault}
use Rattle.gql_check_rules.specs.Faults.{Fault}
use Rattle.gql_check_rules.specs.Rules.{first_fault}
use Rattle.gql_publish_document.specs.Document.{document_schema}

-- why bytes are no valid document: the reader refuses them, or they are a document that breaks a rule
pub data Refusal : Type 0 where
  unreadable : (error : ReadError) → Refusal
  broken : (fault : Fault) → Refusal

-- a valid document, or the refusal
abbrev pub Verdict : Type 0
Verdict = Result Document Refusal

-- The bytes have this verdict: they spell a document that breaks no rule; or the reader's fault stands in them; or they
-- spell a document, and this is its first broken rule.
abbrev pub HasVerdict : List ℕ → Verdict → Type 0
HasVerdict bytes (Ok document) = Spells document bytes × (first_fault (document_schema document) ≡ None)
HasVerdict bytes (Err (unreadable error)) = IsFault bytes error
HasVerdict bytes (Err (broken fault)) = (document : Document) × Spells document bytes × (first_fault (document_schema document) ≡ Some fault)

-- no two verdicts on the bytes differ
abbrev pub HasOneVerdict : List ℕ → Type 0
HasOneVerdict bytes = (one other : Verdict) → HasVerdict bytes one → HasVerdict bytes other → one ≡ other
