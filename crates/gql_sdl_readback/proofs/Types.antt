-- The text of a type reference says it.
use Rattle.std.proofs.Common.{◌≡◌, ℕ, zero, suc, true, List, ◌++◌, Option, Some, None, refl, codes, inl, inr, rules, subst}
use Rattle.std.specs.List.{AllByRecursion}
use Rattle.gql_grammar.specs.Form.{Terminal, Form}
use Rattle.gql_text_lexer.specs.Bytes.{goes_on_name, all_of, ends_before}
use Rattle.gql_text_syntax.specs.Sorts.{code, only, token}
use Rattle.gql_text_syntax.specs.declared.sort.Sort.TheVariants.{Bang, CloseBracket, OpenBracket}
use Rattle.gql_text_syntax.specs.Types.{named, plain_with, type_with, list_with, bracketed, marked, type_of}
use Rattle.gql_text_syntax.specs.Grammar.{type_ref}
use Rattle.gql_text_values.specs.TypeRefs.{type_text}
use Rattle.gql_text_syntax.specs.declared.syntax.TypeTree.{TypeTree}
use Rattle.gql_text_syntax.specs.declared.syntax.TypeTree.TheVariants.{Named, NonNull, List as Listed}
use Rattle.gql_text_syntax.specs.declared.syntax.TypeTree.TheFolds.{the_lemmas}
use Rattle.gql_text_values.specs.declared.type_ref.TypeRef.TheFolds.{the_lemmas as the_lemmas_of_references}
use Rattle.gql_sdl_readback.proofs.Texts.{Says, FitsSort, Spelled, Keeps, is_unquoted}
use Rattle.gql_sdl_readback.proofs.Says.{name_says, sign_says, sign_then, joined, then_nothing, absent, present, IsThere, left, right, mapped, declared_says, limited_says}
use Rattle.gql_sdl_readback.proofs.Bytes.{name_unquoted, unquoted-append}
use Rattle.gql_sdl_readback.proofs.Keeps.{fit_left, fit_right, any, name_keeps, refused_keeps, seq_keeps, map_keeps, alt_keeps, opt_keeps}

-- ---- the equations of the text

-- the text of the type reference that a written type stands for
abbrev pub written_text : TypeTree → List ℕ
written_text t = type_text (type_of t)

pub text_named : (name : List ℕ) → written_text (Named name) ≡ name
text_named name = search (rules, the_lemmas, the_lemmas_of_references)

pub text_non_null : (t : TypeTree) → written_text (NonNull t) ≡ written_text t ++ codes "!"
text_non_null t = search (rules, the_lemmas, the_lemmas_of_references)

pub text_list : (t : TypeTree) → written_text (Listed t) ≡ codes "[" ++ (written_text t ++ codes "]")
text_list t = search (rules, the_lemmas, the_lemmas_of_references)

-- ---- the laws

-- the text of each type that fitting terminals spell by the form says it
abbrev pub SaysTypes : Form TypeTree → Type 0
SaysTypes f = (t : TypeTree) (rest : List ℕ) (ts : List Terminal) → f.spells t ts → AllByRecursion FitsSort ts → ends_before goes_on_name rest ≡ true → Says f (λ x. x ≡ t) (written_text t) rest

named_says : SaysTypes named
unfolding named
named_says t rest ts (token, m, e) a k =
    let fit = subst (AllByRecursion FitsSort) m.1 a in
    rw (e, text_named token.text) (mapped (name_says token.text rest (fit.0.name m.0) k) (λ x h. rw h refl))

plain_says : (f : Form TypeTree) → SaysTypes f → SaysTypes (plain_with f)
unfolding plain_with
plain_says f law t rest ts (inl q) a k = left f (named_says t rest ts q a k)
plain_says f law t rest ts (inr q) a k = right named (law t rest ts q a k)

type_says : (f : Form TypeTree) → SaysTypes f → SaysTypes (type_with f)
unfolding type_with
type_says f law t rest ts ((inner, None), (u, v, su, sv, e), q) a k =
    rw q (mapped (then_nothing (plain_says f law inner rest u su (fit_left ts u v e a) k) (absent (token Bang) rest)) (λ p h. rw (h.0, h.1) refl))
type_says f law t rest ts ((inner, Some mark), (u, v, su, sv, e), q) a k =
    rw (q, text_non_null inner) (mapped (joined (written_text inner) (codes "!") rest (plain_says f law inner (codes "!" ++ rest) u su (fit_left ts u v e a) refl) (present (sign_says 33 (code Bang) rest refl refl refl))) (λ p h. by_mark p.0 p.1 inner h.0 h.1))
  where
    by_mark : (x : TypeTree) (o : Option Terminal) (inner : TypeTree) → x ≡ inner → IsThere (λ t. Unit {0}) o → marked x o ≡ NonNull inner
    by_mark x None inner e i = absurd i
    by_mark x (Some mark) inner e i = rw e refl

bracketed_says : (n : ℕ) → SaysTypes (bracketed n)
unfolding bracketed list_with
bracketed_says zero t rest ts q a k = absurd q
bracketed_says (suc n) t rest ts (p, (u, v, su, (w, x, sw, sx, e2), e), q) a k =
    let inside : AllByRecursion FitsSort w = fit_left v w x e2 (fit_right ts u v e a) in
    rw (q, text_list p.1.0) (mapped (sign_then refl refl refl (joined (written_text p.1.0) (codes "]") rest (type_says (bracketed n) (bracketed_says n) p.1.0 (codes "]" ++ rest) w sw inside refl) (sign_says 93 (code CloseBracket) rest refl refl refl))) (λ y h. rw h.0 refl))

-- the text of a type reference that was spelled
pub type_ref_says : (t : TypeTree) (rest : List ℕ) → Spelled type_ref t → ends_before goes_on_name rest ≡ true → Says type_ref (λ x. x ≡ t) (written_text t) rest
type_ref_says t rest i k = limited_says _ (declared_says _ _ _ (type_says (bracketed 64) (bracketed_says 64) t rest i.terminals i.spells i.fit k))

-- ---- the bytes of the text

unquoted_named : Keeps named (λ t. all_of is_unquoted (written_text t) ≡ true)
unfolding named
unquoted_named = map_keeps name_keeps (λ t h. rw (text_named t.text) (name_unquoted t.text h))

unquoted_type : (f : Form TypeTree) → Keeps f (λ t. all_of is_unquoted (written_text t) ≡ true) → Keeps (type_with f) (λ t. all_of is_unquoted (written_text t) ≡ true)
unfolding type_with plain_with
unquoted_type f k = map_keeps (seq_keeps (alt_keeps unquoted_named k) (opt_keeps (any (token Bang)))) (λ p h. by p.0 p.1 h.0)
  where
    by : (t : TypeTree) (o : Option Terminal) → all_of is_unquoted (written_text t) ≡ true → all_of is_unquoted (written_text (marked t o)) ≡ true
    by t None h = h
    by t (Some mark) h = rw (text_non_null t) (unquoted-append (written_text t) (codes "!") h refl)

unquoted_bracketed : (n : ℕ) → Keeps (bracketed n) (λ t. all_of is_unquoted (written_text t) ≡ true)
unfolding bracketed list_with
unquoted_bracketed zero = refused_keeps (only OpenBracket)
unquoted_bracketed (suc n) =
    map_keeps (seq_keeps (any (token OpenBracket)) (seq_keeps (unquoted_type (bracketed n) (unquoted_bracketed n)) (any (token CloseBracket))))
    (λ p h. rw (text_list p.1.0) (unquoted-append (written_text p.1.0) (codes "]") h.1.0 refl))

pub type_unquoted : (t : TypeTree) → Spelled type_ref t → all_of is_unquoted (written_text t) ≡ true
type_unquoted t i = (unquoted_type (bracketed 64) (unquoted_bracketed 64)).each t i.terminals i.spells i.fit
