-- The limits of a type and of a value, in two ways of saying them: along their forms, and by the brackets that are open.
use Rattle.std.proofs.Common.{◌≡◌, ℕ, zero, suc, true, false, [], ◌∷◌, refl, arith, inl, inr}
use Rattle.std.specs.Prelude.{◌||◌, ◌==◌, Bool}
use Rattle.gql_grammar.specs.Form.{Terminal, Form, among, one, seq, opt, many, alt}
use Rattle.gql_grammar.specs.Brackets.{Exceeds}
use Rattle.gql_grammar.proofs.Depth.{Counts, one_counts, seq_counts, opt_counts, many_counts, map_counts, alt_counts, refused_counts, within_counts}
use Rattle.gql_text_syntax.specs.Sorts as s
use Rattle.gql_text_syntax.specs.Sorts.{code, only, token}
use Rattle.gql_text_syntax.specs.declared.sort.Sort.TheVariants.{Bang, CloseBrace, CloseBracket, Colon, OpenBrace, OpenBracket, WholeNumber}
use Rattle.gql_text_syntax.specs.Types.{named, bracketed, plain_with, type_with, list_with}
use Rattle.gql_text_syntax.specs.Values.{key, number, string, word, leaf, refused_number, bracketed_list, entry, object, value_with, nest_with, nested}
use Rattle.gql_text_syntax.specs.declared.syntax.TypeTree.{TypeTree}
use Rattle.gql_text_syntax.specs.declared.syntax.Literal.{Literal}

-- ---- types

abbrev TypeCounts : {A : Type 0} → Form A → ℕ → Type 0
TypeCounts f most = Counts s.nests s.nest_ends [] refl refl refl f most

type_counts : (f : Form TypeTree) (most : ℕ) → TypeCounts f most → TypeCounts (type_with f) most
unfolding type_with plain_with named
type_counts f most c = map_counts s.nests s.nest_ends [] refl refl refl _ _ most (seq_counts s.nests s.nest_ends [] refl refl refl (plain_with f) (opt (token Bang)) most
    (alt_counts s.nests s.nest_ends [] refl refl refl named f most (map_counts s.nests s.nest_ends [] refl refl refl _ (one s.names) most (one_counts s.nests s.nest_ends [] refl refl refl s.names refl refl refl most)) c)
    (opt_counts s.nests s.nest_ends [] refl refl refl (token Bang) most (one_counts s.nests s.nest_ends [] refl refl refl (only Bang) refl refl refl most)))

is_that_sort : (n m : ℕ) → among n (m ∷ []) ≡ true → n ≡ m
is_that_sort n m e = by_test (n == m) refl e
  where
    by_test : (b : Bool) → (n == m) ≡ b → (b || false) ≡ true → n ≡ m
    by_test true k e = grind arith
    by_test false k e = absurd cc

bracket_over : (t : Terminal) (n : ℕ) → among t.sort (only OpenBracket) ≡ true → Exceeds s.nests s.nest_ends [] 0 n [] t
bracket_over t n e = inr (rw (is_that_sort t.sort (code OpenBracket) e) refl, omega arith)

pub bracketed_counts : (n : ℕ) → TypeCounts (bracketed n) n
unfolding bracketed list_with
bracketed_counts zero = refused_counts s.nests s.nest_ends [] refl refl refl (only OpenBracket) zero bracket_over
bracketed_counts (suc n) = map_counts s.nests s.nest_ends [] refl refl refl _ _ (suc n) (within_counts s.nests s.nest_ends [] refl refl refl (type_with (bracketed n)) (code OpenBracket) (code CloseBracket) n (type_counts (bracketed n) n (bracketed_counts n)) refl refl refl refl refl)

pub type_limits : TypeCounts (type_with (bracketed 64)) 64
type_limits = type_counts (bracketed 64) 64 (bracketed_counts 64)

-- ---- values

abbrev ValueCounts : {A : Type 0} → Form A → ℕ → Type 0
ValueCounts f most = Counts s.nests s.nest_ends s.refused_numbers refl refl refl f most

leaf_counts : (most : ℕ) → ValueCounts leaf most
unfolding leaf number string word
leaf_counts most =
    alt_counts s.nests s.nest_ends s.refused_numbers refl refl refl number (alt string word) most (map_counts s.nests s.nest_ends s.refused_numbers refl refl refl _ (token WholeNumber) most (one_counts s.nests s.nest_ends s.refused_numbers refl refl refl (only WholeNumber) refl refl refl most))
    (alt_counts s.nests s.nest_ends s.refused_numbers refl refl refl string word most (map_counts s.nests s.nest_ends s.refused_numbers refl refl refl _ (one s.strings) most (one_counts s.nests s.nest_ends s.refused_numbers refl refl refl s.strings refl refl refl most))
    (map_counts s.nests s.nest_ends s.refused_numbers refl refl refl _ (one s.names) most (one_counts s.nests s.nest_ends s.refused_numbers refl refl refl s.names refl refl refl most)))

number_counts : (most : ℕ) → ValueCounts refused_number most
unfolding refused_number
number_counts most = refused_counts s.nests s.nest_ends s.refused_numbers refl refl refl s.refused_numbers most (λ t n e. inl e)

value_counts : (f : Form Literal) (most : ℕ) → ValueCounts f most → ValueCounts (value_with f) most
unfolding value_with
value_counts f most c = alt_counts s.nests s.nest_ends s.refused_numbers refl refl refl leaf (alt refused_number f) most (leaf_counts most) (alt_counts s.nests s.nest_ends s.refused_numbers refl refl refl refused_number f most (number_counts most) c)

entry_counts : (f : Form Literal) (most : ℕ) → ValueCounts f most → ValueCounts (entry f) most
unfolding entry key
entry_counts f most c = map_counts s.nests s.nest_ends s.refused_numbers refl refl refl _ _ most (seq_counts s.nests s.nest_ends s.refused_numbers refl refl refl key (seq (token Colon) f) most
    (map_counts s.nests s.nest_ends s.refused_numbers refl refl refl _ (one s.names) most (one_counts s.nests s.nest_ends s.refused_numbers refl refl refl s.names refl refl refl most))
    (seq_counts s.nests s.nest_ends s.refused_numbers refl refl refl (token Colon) f most (one_counts s.nests s.nest_ends s.refused_numbers refl refl refl (only Colon) refl refl refl most) c))

nest_counts : (f : Form Literal) (most : ℕ) → ValueCounts f most → ValueCounts (nest_with f) (suc most)
unfolding nest_with bracketed_list object
nest_counts f most c = alt_counts s.nests s.nest_ends s.refused_numbers refl refl refl (bracketed_list f) (object f) (suc most)
    (map_counts s.nests s.nest_ends s.refused_numbers refl refl refl _ _ (suc most) (within_counts s.nests s.nest_ends s.refused_numbers refl refl refl (many f) (code OpenBracket) (code CloseBracket) most (many_counts s.nests s.nest_ends s.refused_numbers refl refl refl f most c) refl refl refl refl refl))
    (map_counts s.nests s.nest_ends s.refused_numbers refl refl refl _ _ (suc most) (within_counts s.nests s.nest_ends s.refused_numbers refl refl refl (many (entry f)) (code OpenBrace) (code CloseBrace) most (many_counts s.nests s.nest_ends s.refused_numbers refl refl refl (entry f) most (entry_counts f most c)) refl refl refl refl refl))

nest_over : (t : Terminal) (n : ℕ) → among t.sort s.nests ≡ true → Exceeds s.nests s.nest_ends s.refused_numbers 0 n [] t
nest_over t n e = inr (e, omega arith)

pub nested_counts : (n : ℕ) → ValueCounts (nested n) n
unfolding nested
nested_counts zero = refused_counts s.nests s.nest_ends s.refused_numbers refl refl refl s.nests zero nest_over
nested_counts (suc n) = nest_counts (value_with (nested n)) n (value_counts (nested n) n (nested_counts n))

pub value_limits : ValueCounts (value_with (nested 64)) 64
value_limits = value_counts (nested 64) 64 (nested_counts 64)
