-- The verdict on the bytes of a schema document. Each of them is a document that they spell, or a fault.
use Rattle.std.specs.Prelude.{◌≡◌, ◌≢◌, ℕ, List, [], Result, Ok, Err}
use Rattle.std.specs.Str.{IsUtf8, IsValidUpTo}
use Rattle.gql_text_syntax.specs.Documents.{SpelledBy, IsStopOf}
use Rattle.gql_text.specs.DocumentOf.{document_of}
use Rattle.gql_text.specs.Faults.{IsFirst}
use Rattle.gql_text.specs.Owners.{owner_faults}
use Rattle.gql_text.specs.declared.document.Document.{Document}
use Rattle.gql_text_syntax.specs.declared.error.ReadError.{ReadError}
use Rattle.gql_text_syntax.specs.declared.error.ReadError.TheVariants as errors
use Rattle.gql_text.specs.declared.owner_fault.FaultKind.{FaultKind}
use Rattle.gql_text.specs.declared.owner_fault.FaultKind.TheVariants as kinds
use Rattle.gql_text.specs.declared.owner_fault.OwnerFault.{OwnerFault}
use Rattle.gql_text_syntax.specs.declared.syntax.WrittenDefinition.{WrittenDefinition}

-- the bytes are the text of a document: tokens that spell a tree without an owner fault, which stands for it
pub record Spells (d : Document) (bytes : List ℕ) : Type 0 where
  pub utf8 : IsUtf8 bytes
  pub tree : List WrittenDefinition
  pub spelled : SpelledBy tree bytes
  pub faultless : owner_faults tree ≡ []
  pub stands : d ≡ document_of tree

-- the error of a kind of owner fault at this place
abbrev pub kind_error : FaultKind → ℕ → ReadError
kind_error (kinds.Duplicate name) at = errors.Duplicate name at
kind_error (kinds.ReservedName name) at = errors.ReservedName name at
kind_error (kinds.Unsupported form) at = errors.Unsupported form at

-- the error of an owner fault
abbrev pub owner_error : OwnerFault → ReadError
owner_error f = kind_error f.kind f.at

-- the first owner fault of a tree
pub record IsOwnerError (tree : List WrittenDefinition) (e : ReadError) : Type 0 where
  pub fault : OwnerFault
  pub first : IsFirst fault (owner_faults tree)
  pub error : e ≡ owner_error fault

-- The bytes are no UTF-8; or they stop being a document; or they spell a tree that has owner faults, and this is the
-- first one.
pub data IsFault (bytes : List ℕ) (e : ReadError) : Type 0 where
  NotUtf8 : (at : ℕ) → ¬ (IsUtf8 bytes) → IsValidUpTo bytes at → e ≡ errors.NotUtf8 at → IsFault bytes e
  Stop : IsUtf8 bytes → IsStopOf bytes e → IsFault bytes e
  Owner : IsUtf8 bytes → (tree : List WrittenDefinition) → SpelledBy tree bytes → IsOwnerError tree e → IsFault bytes e

-- what becomes of a written tree
abbrev pub Judges : List WrittenDefinition → Result Document ReadError → Type 0
Judges tree (Ok d) = (owner_faults tree ≡ []) × (d ≡ document_of tree)
Judges tree (Err e) = e ≢ errors.OutOfMemory → IsOwnerError tree e
