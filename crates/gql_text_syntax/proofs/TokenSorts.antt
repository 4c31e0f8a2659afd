-- What the sort of a token tells of its kind.
use Rattle.std.proofs.Common.{arith, ◌≡◌, ℕ, ℤ, Bool, true, false, List, [], ◌∷◌, refl}
use Rattle.std.specs.Prelude.{◌==◌, not, ◌&&◌, if◌then◌else◌}
use Rattle.std.specs.Str.{bytes_eq}
use Rattle.gql_grammar.specs.Form.{among}
use Rattle.gql_text_lexer.specs.Forms.{IsName, IsWhole}
use Rattle.gql_text_lexer.specs.Whole.{IsWithin, whole_value}
use Rattle.gql_text_lexer.specs.declared.token.TokenKind.{TokenKind}
use Rattle.gql_text_lexer.specs.declared.token.TokenKind.TheVariants as kind
use Rattle.gql_text_syntax.specs.Sorts.{code, ends, names, sort_in, or_else, definition_words, other_words, locations, punctuators, name_sort, is_within, sort_of}
use Rattle.gql_text_syntax.specs.Cursor.{FitsKind}
use Rattle.gql_text_syntax.specs.declared.sort.Sort.TheVariants.{CloseBrace, WholeNumber, BeyondRange, OtherName}

abbrev all_rows : (ℕ → Bool) → List (List ℕ × ℕ) → Bool
all_rows p [] = true
all_rows p (row ∷ rows) = p row.1 && all_rows p rows

both : (a b : Bool) → (a && b) ≡ true → (a ≡ true) × (b ≡ true)
both true b e = (refl, e)
both false b e = absurd cc

in_table : (p : ℕ → Bool) (rows : List (List ℕ × ℕ)) (text : List ℕ) (other : ℕ) → all_rows p rows ≡ true → p other ≡ true → p (sort_in rows text other) ≡ true
in_table p [] text other a o = o
in_table p (row ∷ rows) text other a o =
    let h = both (p row.1) (all_rows p rows) a in
    by_row (bytes_eq text row.0) (sort_in rows text other) h.0 (in_table p rows text other h.1 o)
  where
    by_row : (b : Bool) (n : ℕ) → p row.1 ≡ true → p n ≡ true → p (if b then row.1 else n) ≡ true
    by_row true n h k = h
    by_row false n h k = k

either : (p : ℕ → Bool) (sort other : ℕ) → p sort ≡ true → p other ≡ true → p (or_else sort other) ≡ true
either p sort other a b = by_test (sort == code OtherName)
  where
    by_test : (t : Bool) → p (if t then other else sort) ≡ true
    by_test true = b
    by_test false = a

name_all : (p : ℕ → Bool) (text : List ℕ) → all_rows p definition_words ≡ true → all_rows p other_words ≡ true → all_rows p locations ≡ true → p (code OtherName) ≡ true → p (name_sort text) ≡ true
name_all p text a b c o = either p _ _ (in_table p definition_words text (code OtherName) a o) (either p _ _ (in_table p other_words text (code OtherName) b o) (in_table p locations text (code OtherName) c o))

whole_all : (p : ℕ → Bool) (z : Bool) → p (code WholeNumber) ≡ true → p (code BeyondRange) ≡ true → p (if z then code WholeNumber else code BeyondRange) ≡ true
whole_all p true a b = a
whole_all p false a b = b

not_false : (b : Bool) → not b ≡ true → b ≡ false
not_false true e = absurd cc
not_false false e = refl

-- the sort of a name is that of a name
pub names_among : (text : List ℕ) → among (name_sort text) names ≡ true
names_among text = name_all (λ n. among n names) text refl refl refl refl

pub no_end_sort : (k : TokenKind) (text : List ℕ) → among (sort_of k text) ends ≡ false
no_end_sort kind.Punctuator text = not_false _ (in_table (λ n. not (among n ends)) punctuators text (code CloseBrace) refl refl)
no_end_sort kind.Name text = not_false _ (name_all (λ n. not (among n ends)) text refl refl refl refl)
no_end_sort kind.Whole text = not_false _ (whole_all (λ n. not (among n ends)) (is_within (whole_value text)) refl refl)
no_end_sort kind.Float text = refl
no_end_sort kind.Quoted text = refl
no_end_sort kind.Block text = refl

clash : (b : Bool) → not b ≡ true → b ≡ true → ⊥
clash true e f = cc
clash false e f = cc

pub name_fits : (k : TokenKind) (text : List ℕ) → FitsKind k text → among (sort_of k text) names ≡ true → IsName text
name_fits kind.Punctuator text f h = absurd (clash _ (in_table (λ n. not (among n names)) punctuators text (code CloseBrace) refl refl) h)
name_fits kind.Name text f h = f
name_fits kind.Whole text f h = absurd (clash _ (whole_all (λ n. not (among n names)) (is_within (whole_value text)) refl refl) h)
name_fits kind.Float text f h = absurd cc
name_fits kind.Quoted text f h = absurd cc
name_fits kind.Block text f h = absurd cc

same_true : (n m : ℕ) → n ≡ m → (n == m) ≡ true
same_true n m e = rw e (itself m)
  where
    itself : (m : ℕ) → (m == m) ≡ true
    itself m = grind arith

within : (z : Bool) → ((if z then code WholeNumber else code BeyondRange) == code WholeNumber) ≡ true → z ≡ true
within true h = refl
within false h = h

pub whole_fits : (k : TokenKind) (text : List ℕ) → FitsKind k text → sort_of k text ≡ code WholeNumber → IsWhole text × (is_within (whole_value text) ≡ true)
whole_fits kind.Punctuator text f h = absurd (clash _ (in_table (λ n. not (n == code WholeNumber)) punctuators text (code CloseBrace) refl refl) (same_true _ _ h))
whole_fits kind.Name text f h = absurd (clash _ (name_all (λ n. not (n == code WholeNumber)) text refl refl refl refl) (same_true _ _ h))
whole_fits kind.Whole text f h = (f, within (is_within (whole_value text)) (same_true _ _ h))
whole_fits kind.Float text f h = absurd (clash false refl (same_true _ _ h))
whole_fits kind.Quoted text f h = absurd (clash false refl (same_true _ _ h))
whole_fits kind.Block text f h = absurd (clash false refl (same_true _ _ h))

pub is_within_sound : (z : ℤ) → is_within z ≡ true → IsWithin z
is_within_sound z e = grind arith
