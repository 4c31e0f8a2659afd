-- What a trouble tells, from what the publisher answered.
use Rattle.std.proofs.Common.{◌≡◌, ◌++◌, ◌∷◌, [], List, ℕ, Ok, Err, refl, string_bytes}
use Rattle.std.specs.Prelude.{IsSomeAnd, Some, None, Option}
use Rattle.gql_registry_meta.specs.Parts.{Text}
use Rattle.gql_text.specs.declared.document.Document.{Document}
use Rattle.gql_text_syntax.specs.declared.error.ReadError.TheVariants as read_error
use Rattle.gql_check_rules.specs.Faults.{Fault}
use Rattle.gql_dynamic.specs.Errors.{fault_of, fault_text}
use Rattle.gql_publish_document.specs.Verdict.{Refusal, unreadable, broken, HasVerdict}
use Rattle.gql_publish_load.specs.Errors.{Refuses}
use Rattle.gql_publish_load.specs.declared.error.PublishError.{PublishError}
use Rattle.gql_publish_load.specs.declared.error.PublishError.TheVariants as publish_error
use Rattle.gql_publish.specs.Lines.{refusal_line}
use Rattle.gql_publish.specs.Troubles.{IsTroubleWith, IsRefusalLine, ReportsError}
use Rattle.gql_publish.specs.declared.program.Trouble.{Trouble}
use Rattle.gql_publish.specs.declared.program.Trouble.TheVariants as trouble

-- a refusal of these bytes, and its line
abbrev Told : List ℕ → Text → Type 0
Told bytes line = (refusal : Refusal) × HasVerdict bytes (Err refusal) × (line ≡ refusal_line refusal ++ 10 ∷ [])

-- a broken rule that is told
rule_told : (bytes : List ℕ) (o : Option Fault) (line : Text) → IsSomeAnd o (λ fault. HasVerdict bytes (Err (broken fault))) → line ≡ fault_text o ++ 10 ∷ [] → Told bytes line
rule_told bytes (Some fault) line h e = (broken fault, h, e)
rule_told bytes None line h e = absurd h

line_told : (bytes : List ℕ) (error : PublishError) (line : Text) → Refuses (λ refusal. HasVerdict bytes (Err refusal)) error → IsRefusalLine error line → Told bytes line
line_told bytes (publish_error.NotUtf8 at) line h e = (unreadable (read_error.NotUtf8 at), h, e)
line_told bytes (publish_error.Syntax at) line h e = (unreadable (read_error.Syntax at), h, e)
line_told bytes (publish_error.TooDeep at) line h e = (unreadable (read_error.TooDeep at), h, e)
line_told bytes (publish_error.NumberRange at) line h e = (unreadable (read_error.NumberRange at), h, e)
line_told bytes (publish_error.Unsupported w at) line h e = (unreadable (read_error.Unsupported w at), h, e)
line_told bytes (publish_error.Duplicate name at) line h e = (unreadable (read_error.Duplicate name at), h, e)
line_told bytes (publish_error.ReservedName name at) line h e = (unreadable (read_error.ReservedName name at), h, e)
line_told bytes (publish_error.Schema error) line h e = rule_told bytes (fault_of error) line h e
line_told bytes publish_error.OutOfMemory line h e = absurd e

pub explained : (bytes : List ℕ) (error : PublishError) (t : Trouble) → Refuses (λ refusal. HasVerdict bytes (Err refusal)) error → ReportsError error t → IsTroubleWith bytes t
explained bytes error (trouble.Refused line) h e = line_told bytes error (string_bytes line) h e
explained bytes error trouble.OutOfMemory h e = tt
explained bytes error trouble.BadWords h e = absurd e
explained bytes error trouble.ReadFault h e = absurd e
explained bytes error trouble.WriteFault h e = absurd e
explained bytes error trouble.TooLong h e = absurd e

-- a broken rule is no document
no_rule : (d : Document) (o : Option Fault) → IsSomeAnd o (λ fault. Ok d ≡ Err (broken fault)) → ⊥
no_rule d (Some fault) h = cc
no_rule d None h = h

-- what publishing a valid document may fail for: that memory ran out
pub memory_alone : (d : Document) (error : PublishError) → Refuses (λ refusal. Ok d ≡ Err refusal) error → error ≡ publish_error.OutOfMemory
memory_alone d (publish_error.NotUtf8 at) h = absurd cc
memory_alone d (publish_error.Syntax at) h = absurd cc
memory_alone d (publish_error.TooDeep at) h = absurd cc
memory_alone d (publish_error.NumberRange at) h = absurd cc
memory_alone d (publish_error.Unsupported w at) h = absurd cc
memory_alone d (publish_error.Duplicate name at) h = absurd cc
memory_alone d (publish_error.ReservedName name at) h = absurd cc
memory_alone d (publish_error.Schema error) h = absurd (no_rule d (fault_of error) h)
memory_alone d publish_error.OutOfMemory h = refl
