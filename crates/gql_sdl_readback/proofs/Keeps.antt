-- What each tree has that fitting terminals spell: one law for each way to make a form of others.
use Rattle.std.proofs.Common.{◌≡◌, ℕ, ◌+◌, Bool, true, false, List, [], ◌∷◌, ◌++◌, length, map, Option, Some, None, refl, sym, subst, inl, inr, arith}
use Rattle.std.specs.Prelude.{◌⊎◌, if◌then◌else◌}
use Rattle.std.proofs.lemmas.Bool.Decides.{nat_tests}
use Rattle.std.specs.List.{AllByRecursion}
use Rattle.gql_grammar.specs.Form.{Terminal, Form, among, one, seq, opt, opt_spells, many, many_spell, some, alt, ◌<$>◌, refused}
use Rattle.gql_text_lexer.specs.Bytes.{begins_name, is_punctuator}
use Rattle.gql_text_lexer.specs.Forms.{IsName, IsPunctuator, IsPiece}
use Rattle.gql_text_lexer.specs.Tokens.{Piece, Runs}
use Rattle.gql_text_lexer.specs.Whole.{whole_value}
use Rattle.gql_text_lexer.specs.declared.token.TokenKind.{TokenKind}
use Rattle.gql_text_lexer.specs.declared.token.TokenKind.TheVariants as kind
use Rattle.gql_text_lexer.specs.declared.token.Shape.{Shape}
use Rattle.gql_text_lexer.specs.declared.token.Shape.TheVariants.{Ignored, Token}
use Rattle.gql_text_syntax.specs.Documents.{SpelledBy}
use Rattle.gql_text_syntax.specs.Grammar.{document}
use Rattle.gql_text_syntax.specs.Sorts.{code, names, name_sort, is_within, sort_of, terminal_of}
use Rattle.gql_text_syntax.specs.declared.sort.Sort.TheVariants.{WholeNumber, BeyondRange}
use Rattle.gql_text_syntax.specs.declared.syntax.WrittenDefinition.{WrittenDefinition}
use Rattle.gql_text_syntax.proofs.Clauses.{fit}
use Rattle.gql_text_syntax.proofs.TokenSorts.{name_fits, whole_fits, is_within_sound}
use Rattle.gql_sdl_readback.proofs.Texts.{terminals_at, FitsSort, Spelled, Keeps}

-- ---- the sort of a name is that of its text

clash : (t : Bool) → t ≡ false → t ≡ true → ⊥
clash true e f = cc
clash false e f = cc

sign_byte : (b : ℕ) → is_punctuator b ≡ true → begins_name b ≡ false
sign_byte b h = grind (arith, nat_tests)

sign_no_name : (text : List ℕ) → IsPunctuator text → IsName text → ⊥
sign_no_name [] p n = p
sign_no_name (b ∷ bs) (inl p) n = clash (begins_name b) (sign_byte b p.0) n.0
sign_no_name (b ∷ bs) (inr p) n = clash (begins_name b) (rw p.0 refl) n.0

number_no_name : (t : Bool) → among (if t then code WholeNumber else code BeyondRange) names ≡ true → ⊥
number_no_name true h = cc
number_no_name false h = cc

name_sorted : (k : TokenKind) (text after : List ℕ) → IsPiece (Token k) text after → among (sort_of k text) names ≡ true → sort_of k text ≡ name_sort text
name_sorted kind.Punctuator text after p m = absurd (sign_no_name text p (name_fits kind.Punctuator text tt m))
name_sorted kind.Name text after p m = refl
name_sorted kind.Whole text after p m = absurd (number_no_name (is_within (whole_value text)) m)
name_sorted kind.Float text after p m = absurd cc
name_sorted kind.Quoted text after p m = absurd cc
name_sorted kind.Block text after p m = absurd cc

-- ---- the terminals of a text fit

pub fits_at : (at : ℕ) (ps : List Piece) (text rest : List ℕ) → Runs ps text rest → AllByRecursion FitsSort (terminals_at at ps)
fits_at at [] text rest r = tt
fits_at at (p ∷ ps) text rest (after, e, k, r) = by_shape p.shape p.bytes k (fits_at (at + length p.bytes) ps after rest r)
  where
    by_shape : (shape : Shape) (bytes : List ℕ) → IsPiece shape bytes after → AllByRecursion FitsSort (terminals_at (at + length bytes) ps) → AllByRecursion FitsSort (terminals_at at (record { shape = shape; bytes = bytes } ∷ ps))
    by_shape Ignored bytes k a = a
    by_shape (Token c) bytes k a =
        let f = fit c bytes after k in
        (record { name = λ m. name_fits c bytes f m; sort = λ m. name_sorted c bytes after k m; number = λ e. is_within_sound _ (whole_fits c bytes f e).1 }, a)

pub fit_left : (ts u v : List Terminal) → ts ≡ u ++ v → AllByRecursion FitsSort ts → AllByRecursion FitsSort u
fit_left ts u v e a = left_of u v (subst (AllByRecursion FitsSort) e a)
  where
    left_of : (u v : List Terminal) → AllByRecursion FitsSort (u ++ v) → AllByRecursion FitsSort u
    left_of [] v a = tt
    left_of (t ∷ u) v a = (a.0, left_of u v a.1)

pub fit_right : (ts u v : List Terminal) → ts ≡ u ++ v → AllByRecursion FitsSort ts → AllByRecursion FitsSort v
fit_right ts u v e a = right_of u v (subst (AllByRecursion FitsSort) e a)
  where
    right_of : (u v : List Terminal) → AllByRecursion FitsSort (u ++ v) → AllByRecursion FitsSort v
    right_of [] v a = a
    right_of (t ∷ u) v a = right_of u v a.1

-- ---- one token

-- whatever is spelled
pub any : {A : Type 0} (f : Form A) → Keeps f (λ a. Unit {0})
any f = record { each = λ a ts s fit. tt }

pub name_keeps : Keeps (one names) (λ t. IsName t.text)
name_keeps = record { each = λ t ts s fit. (subst (AllByRecursion FitsSort) s.1 fit).0.name s.0 }

pub spelled_keeps : {A : Type 0} (f : Form A) → Keeps f (Spelled f)
spelled_keeps f = record { each = λ a ts s fit. record { terminals = ts; spells = s; fit = fit } }

-- a token that a limit refuses is in no spelling
pub refused_keeps : {A : Type 0} {P : A → Type 0} (set : List ℕ) → Keeps (refused set) P
refused_keeps set = record { each = λ a ts s fit. absurd s }

-- ---- forms of others

pub seq_keeps : {A B : Type 0} {f : Form A} {g : Form B} {P : A → Type 0} {Q : B → Type 0} → Keeps f P → Keeps g Q → Keeps (seq f g) (λ p. P p.0 × Q p.1)
seq_keeps kf kg = record { each = λ p ts s fit. (kf.each p.0 s.0 s.2 (fit_left ts s.0 s.1 s.4 fit), kg.each p.1 s.1 s.3 (fit_right ts s.0 s.1 s.4 fit)) }

pub map_keeps : {A B : Type 0} {h : A → B} {f : Form A} {P : A → Type 0} {Q : B → Type 0} → Keeps f P → ((a : A) → P a → Q (h a)) → Keeps (h <$> f) Q
map_keeps {h} {Q} kf k = record { each = λ b ts s fit. subst Q (sym s.2) (k s.0 (kf.each s.0 ts s.1 fit)) }

pub alt_keeps : {A : Type 0} {f g : Form A} {P : A → Type 0} → Keeps f P → Keeps g P → Keeps (alt f g) P
alt_keeps {A} {f} {g} {P} kf kg = record { each = by }
  where
    by : (a : A) (ts : List Terminal) → f.spells a ts ⊎ g.spells a ts → AllByRecursion FitsSort ts → P a
    by a ts (inl s) fit = kf.each a ts s fit
    by a ts (inr s) fit = kg.each a ts s fit

abbrev pub AllIn : {A : Type 0} → (A → Type 0) → Option A → Type 0
AllIn P None = Unit {0}
AllIn P (Some a) = P a

pub opt_keeps : {A : Type 0} {f : Form A} {P : A → Type 0} → Keeps f P → Keeps (opt f) (AllIn P)
opt_keeps {A} {f} {P} kf = record { each = by }
  where
    by : (o : Option A) (ts : List Terminal) → opt_spells f.spells o ts → AllByRecursion FitsSort ts → AllIn P o
    by None ts s fit = tt
    by (Some a) ts s fit = kf.each a ts s fit

pub many_keeps : {A : Type 0} {f : Form A} {P : A → Type 0} → Keeps f P → Keeps (many f) (AllByRecursion P)
many_keeps {A} {f} {P} kf = record { each = by }
  where
    by : (xs : List A) (ts : List Terminal) → many_spell f.spells xs ts → AllByRecursion FitsSort ts → AllByRecursion P xs
    by [] ts s fit = tt
    by (x ∷ xs) ts (u, v, su, sv, e) fit = (kf.each x u su (fit_left ts u v e fit), by xs v sv (fit_right ts u v e fit))

pub some_keeps : {A : Type 0} {f : Form A} {P : A → Type 0} → Keeps f P → Keeps (some f) (AllByRecursion P)
some_keeps kf = map_keeps (seq_keeps kf (many_keeps kf)) (λ p h. (h.0, h.1))

-- ---- a whole text

pub document_keeps : {P : WrittenDefinition → Type 0} → Keeps document (AllByRecursion P) → (d : List WrittenDefinition) (text : List ℕ) → SpelledBy d text → AllByRecursion P d
document_keeps k d text s =
    k.each d (map terminal_of s.tokens) s.spells (subst (λ ts. AllByRecursion FitsSort (map terminal_of ts)) (sym s.has.listed) (fits_at 0 s.has.pieces text s.has.rest s.has.runs))
