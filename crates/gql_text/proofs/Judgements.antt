-- The clauses of a judgement, from the first owner fault of the tree that was read.
use Rattle.std.proofs.Common.{◌≡◌, ℕ, List, [], Result, Ok, Err, IfErr, refl, sym, ap, subst, ◌∙◌}
use Rattle.std.specs.Prelude.{◌≢◌}
use Rattle.std.specs.Str.{IsUtf8, IsValidUpTo}
use Rattle.std.proofs.lemmas.Str.{utf8_valid_len-IsValidUpTo}
use Rattle.gql_text_syntax.specs.Documents.{SpelledBy, IsOrMemory, IsErrorOrMemory}
use Rattle.gql_text.specs.DocumentOf.{document_of}
use Rattle.gql_text.specs.Faults.{IsFirst}
use Rattle.gql_text.specs.Owners.{owner_faults}
use Rattle.gql_text.specs.Verdict.{Spells, IsFault, Owner, IsOwnerError, Judges, owner_error}
use Rattle.gql_text.proofs.Least.{one_first}
use Rattle.gql_text.specs.declared.document.Document.{Document}
use Rattle.gql_text_syntax.specs.declared.error.ReadError.{ReadError}
use Rattle.gql_text_syntax.specs.declared.error.ReadError.TheVariants as errors
use Rattle.gql_text.specs.declared.owner_fault.OwnerFault.{OwnerFault}
use Rattle.gql_text_syntax.specs.declared.syntax.WrittenDefinition.{WrittenDefinition}

memory : (e : ReadError) → (e ≢ errors.OutOfMemory → ⊥) → e ≡ errors.OutOfMemory
memory (errors.NotUtf8 at) h = absurd (h (λ x. cc))
memory (errors.Syntax at) h = absurd (h (λ x. cc))
memory (errors.TooDeep at) h = absurd (h (λ x. cc))
memory (errors.NumberRange at) h = absurd (h (λ x. cc))
memory (errors.Unsupported w at) h = absurd (h (λ x. cc))
memory (errors.Duplicate name at) h = absurd (h (λ x. cc))
memory (errors.ReservedName name at) h = absurd (h (λ x. cc))
memory errors.OutOfMemory h = refl

no_owner : (tree : List WrittenDefinition) (e : ReadError) → owner_faults tree ≡ [] → IsOwnerError tree e → ⊥
no_owner tree e f o = subst (λ (l : List OwnerFault). IsFirst o.fault l) f o.first

-- a tree has one first fault
one_error : (tree : List WrittenDefinition) (e d : ReadError) → IsOwnerError tree e → IsOwnerError tree d → d ≡ e
one_error tree e d o p = p.error ∙ ap owner_error (one_first (owner_faults tree) p.fault o.fault p.first o.first) ∙ sym o.error

module _ (text : List ℕ) (tree : List WrittenDefinition) (spelled : SpelledBy tree text) (only : (d : List WrittenDefinition) → SpelledBy d text → d ≡ tree) where
  pub only_document : (r : Result Document ReadError) → Judges tree r → (d : Document) → Spells d text → IsOrMemory d r
  only_document (Ok x) j d s = s.stands ∙ ap document_of (only s.tree s.spelled) ∙ sym j.1
  only_document (Err e) j d s =
      let f : owner_faults tree ≡ [] = subst (λ (t : List WrittenDefinition). owner_faults t ≡ []) (only s.tree s.spelled) s.faultless in
      memory e (λ n. no_owner tree e f (j n))

  pub owner_fault : IsUtf8 text → (r : Result Document ReadError) → Judges tree r → IfErr r (λ e. e ≢ errors.OutOfMemory → IsFault text e)
  owner_fault u (Ok x) j = tt
  owner_fault u (Err e) j = λ n. Owner u tree spelled (j n)

  pub owner_only : (r : Result Document ReadError) → Judges tree r → (other : List WrittenDefinition) (e : ReadError) → SpelledBy other text → IsOwnerError other e → IsErrorOrMemory e r
  owner_only (Ok x) j other e s o = no_owner other e (subst (λ (t : List WrittenDefinition). owner_faults t ≡ []) (sym (only other s)) j.0) o
  owner_only (Err d) j other e s o = λ m. one_error other e d o (subst (λ (t : List WrittenDefinition). IsOwnerError t d) (sym (only other s)) (j m))

pub no_stop : (r : Result Document ReadError) (e : ReadError) → ⊥ → IsErrorOrMemory e r
no_stop r e x = absurd x

pub one_place : (bytes : List ℕ) (p q : ℕ) → IsValidUpTo bytes p → IsValidUpTo bytes q → errors.NotUtf8 p ≡ errors.NotUtf8 q
one_place bytes p q h k = ap errors.NotUtf8 (sym (utf8_valid_len-IsValidUpTo bytes p h) ∙ utf8_valid_len-IsValidUpTo bytes q k)
