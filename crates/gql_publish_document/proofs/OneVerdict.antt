-- No two verdicts on the bytes differ.
use Rattle.std.proofs.Common.{◌≡◌, ℕ, Bool, true, false, List, [], length, map, Some, None, Ok, Err, refl, sym, ap, subst, ◌∙◌, inl}
use Rattle.std.specs.Prelude.{◌≢◌, ◌==◌, if◌then◌else◌}
use Rattle.gql_grammar.specs.Form.{end_of_text, Fault, Syntax, Refused}
use Rattle.gql_grammar.proofs.Whole.{all_only}
use Rattle.gql_text_syntax.specs.Documents.{SpelledBy, IsStopOf, fault_error}
use Rattle.gql_text_syntax.specs.Grammar.{document}
use Rattle.gql_text_syntax.specs.Sorts.{terminal_of, end_terminal, code}
use Rattle.gql_text_syntax.specs.declared.sort.Sort.TheVariants as sorts
use Rattle.gql_text_syntax.specs.declared.error.What.{What}
use Rattle.gql_text_syntax.specs.declared.error.What.TheVariants.{Float, Extend}
use Rattle.gql_text_syntax.specs.declared.error.ReadError.{ReadError}
use Rattle.gql_text_syntax.specs.declared.error.ReadError.TheVariants as errors
use Rattle.gql_text_syntax.specs.declared.syntax.WrittenDefinition.{WrittenDefinition}
use Rattle.gql_text_syntax.proofs.GrammarLawful.{document_lawful, document_ends}
use Rattle.gql_text_syntax.proofs.Places.{no_end_here}
use Rattle.gql_text_syntax.proofs.Clauses.{no_stop_by, stops_by_error}
use Rattle.gql_text.specs.DocumentOf.{document_of}
use Rattle.gql_text.specs.Faults.{IsFirst}
use Rattle.gql_text.specs.Owners.{owner_faults}
use Rattle.gql_text.specs.Verdict.{Spells, IsFault, NotUtf8, Stop as stopped, Owner, IsOwnerError, owner_error}
use Rattle.gql_text.specs.declared.document.Document.{Document}
use Rattle.gql_text.proofs.Least.{one_first}
use Rattle.gql_text.proofs.Judgements.{one_place}
use Rattle.gql_sdl_readback.proofs.Whole.{one_tree}
use Rattle.gql_check_rules.specs.Faults.{Fault as Broken}
use Rattle.gql_check_rules.specs.Rules.{first_fault}
use Rattle.gql_publish_document.specs.Document.{document_schema}
use Rattle.gql_publish_document.specs.Verdict.{Refusal, unreadable, broken, Verdict, HasOneVerdict}

abbrev Tree : Type 0
Tree = List WrittenDefinition

not_memory-tests : (a b c : Bool) (at : ℕ) (w v : What) → (if a then errors.Unsupported w at else (if b then errors.Unsupported v at else (if c then errors.NumberRange at else errors.TooDeep at))) ≡ errors.OutOfMemory → ⊥
not_memory-tests true b c at w v e = cc
not_memory-tests false true c at w v e = cc
not_memory-tests false false true at w v e = cc
not_memory-tests false false false at w v e = cc

not_memory-fault : (k : Fault) (at : ℕ) → fault_error k at ≡ errors.OutOfMemory → ⊥
not_memory-fault Syntax at e = cc
not_memory-fault (Refused sort) at e = not_memory-tests (sort == code sorts.Float) (sort == code sorts.WordExtend) (sort == code sorts.BeyondRange) at Float Extend e

module _ (bytes : List ℕ) where
  -- a stop is an error of the text
  not_memory : (e : ReadError) → IsStopOf bytes e → e ≢ errors.OutOfMemory
  not_memory e s m = not_memory-fault s.stop.fault s.stop.at (sym s.error ∙ m)

  -- bytes that spell a tree have no stop
  no_stop : (tree : Tree) (e : ReadError) → SpelledBy tree bytes → IsStopOf bytes e → ⊥
  no_stop tree e s x =
      let read = all_only document document_lawful (map terminal_of s.tokens) (end_terminal end_of_text (length bytes)) (no_end_here s.tokens) refl (document_ends end_of_text refl) tree refl s.spells in
      no_stop_by bytes s.tokens (length bytes) end_of_text s.has (inl (refl, refl)) tree read e x

  no_owner : (tree : Tree) (e : ReadError) → owner_faults tree ≡ [] → IsOwnerError tree e → ⊥
  no_owner tree e f o = subst (IsFirst o.fault) f o.first

  -- bytes that spell a document have no fault
  no_fault : (d : Document) (e : ReadError) → Spells d bytes → IsFault bytes e → ⊥
  no_fault d e s (NotUtf8 at n v is) = n s.utf8
  no_fault d e s (stopped u x) = no_stop s.tree e s.spelled x
  no_fault d e s (Owner u tree spelled o) = no_owner s.tree e s.faultless (subst (λ (t : Tree). IsOwnerError t e) (one_tree bytes tree s.tree spelled s.spelled) o)

  pub one_document : (d e : Document) → Spells d bytes → Spells e bytes → d ≡ e
  one_document d e s t = s.stands ∙ ap document_of (one_tree bytes s.tree t.tree s.spelled t.spelled) ∙ sym t.stands

  one_owner : (tree : Tree) (e f : ReadError) → IsOwnerError tree e → IsOwnerError tree f → e ≡ f
  one_owner tree e f o p = o.error ∙ ap owner_error (one_first (owner_faults tree) o.fault p.fault o.first p.first) ∙ sym p.error

  one_fault : (e f : ReadError) → IsFault bytes e → IsFault bytes f → e ≡ f
  one_fault e f (NotUtf8 at n v is) (NotUtf8 place m w same) = is ∙ one_place bytes at place v w ∙ sym same
  one_fault e f (NotUtf8 at n v is) (stopped u x) = absurd (n u)
  one_fault e f (NotUtf8 at n v is) (Owner u tree spelled o) = absurd (n u)
  one_fault e f (stopped u x) (NotUtf8 at n v is) = absurd (n u)
  one_fault e f (stopped u x) (stopped t y) = stops_by_error bytes e f y (λ n. x) (not_memory e x)
  one_fault e f (stopped u x) (Owner t tree spelled o) = absurd (no_stop tree e spelled x)
  one_fault e f (Owner u tree spelled o) (NotUtf8 at n v is) = absurd (n u)
  one_fault e f (Owner u tree spelled o) (stopped t y) = absurd (no_stop tree f spelled y)
  one_fault e f (Owner u tree spelled o) (Owner t other again p) =
      one_owner tree e f o (subst (λ (t : Tree). IsOwnerError t f) (one_tree bytes other tree again spelled) p)

  not_both : (d e : Document) (fault : Broken) → Spells d bytes → Spells e bytes → first_fault (document_schema d) ≡ None → first_fault (document_schema e) ≡ Some fault → ⊥
  not_both d e fault s t none some =
      let same : first_fault (document_schema d) ≡ first_fault (document_schema e) = ap (λ (x : Document). first_fault (document_schema x)) (one_document d e s t) in
      cc

  one_broken : (d e : Document) (fault other : Broken) → Spells d bytes → Spells e bytes → first_fault (document_schema d) ≡ Some fault → first_fault (document_schema e) ≡ Some other → fault ≡ other
  one_broken d e fault other s t some again =
      let same : first_fault (document_schema d) ≡ first_fault (document_schema e) = ap (λ (x : Document). first_fault (document_schema x)) (one_document d e s t) in
      cc

abbrev valid : Document → Verdict
valid d = Ok d

abbrev refused : Refusal → Verdict
refused r = Err r

pub one_verdict : (bytes : List ℕ) → HasOneVerdict bytes
one_verdict bytes (Ok d) (Ok e) h k = ap valid (one_document bytes d e h.0 k.0)
one_verdict bytes (Ok d) (Err (unreadable error)) h k = absurd (no_fault bytes d error h.0 k)
one_verdict bytes (Ok d) (Err (broken fault)) h (e, s, some) = absurd (not_both bytes d e fault h.0 s h.1 some)
one_verdict bytes (Err (unreadable error)) (Ok d) h k = absurd (no_fault bytes d error k.0 h)
one_verdict bytes (Err (unreadable error)) (Err (unreadable other)) h k = ap (λ (e : ReadError). refused (unreadable e)) (one_fault bytes error other h k)
one_verdict bytes (Err (unreadable error)) (Err (broken fault)) h (e, s, some) = absurd (no_fault bytes e error s h)
one_verdict bytes (Err (broken fault)) (Ok d) (e, s, some) k = absurd (not_both bytes d e fault k.0 s k.1 some)
one_verdict bytes (Err (broken fault)) (Err (unreadable error)) (e, s, some) k = absurd (no_fault bytes e error s k)
one_verdict bytes (Err (broken fault)) (Err (broken other)) (d, s, some) (e, t, again) = ap (λ (f : Broken). refused (broken f)) (one_broken bytes d e fault other s t some again)
