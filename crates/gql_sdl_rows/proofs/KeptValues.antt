-- A value that fitting tokens spell is within the limits.
use Rattle.std.proofs.Common.{◌≡◌, ℕ, zero, suc, Bool, true, false, List, [], ◌∷◌, map, refl, sym, subst}
use Rattle.std.specs.Prelude.{◌==◌, ◌||◌}
use Rattle.std.specs.List.{AllByRecursion}
use Rattle.std.proofs.lemmas.Bool.{eqb-true}
use Rattle.gql_grammar.specs.Form.{Terminal, Form, among, one, refused}
use Rattle.gql_text_lexer.specs.Forms.{IsName}
use Rattle.gql_text_lexer.specs.Values.{string_text}
use Rattle.gql_text_lexer.specs.Whole.{IsWithin, whole_value}
use Rattle.gql_text_syntax.specs.Grammar as g
use Rattle.gql_text_syntax.specs.Sorts as s
use Rattle.gql_text_syntax.specs.Sorts.{code, token}
use Rattle.gql_text_syntax.specs.declared.sort.Sort.TheVariants.{CloseBrace, CloseBracket, Colon, OpenBrace, OpenBracket, WholeNumber, WordFalse, WordNull, WordTrue}
use Rattle.gql_text_syntax.specs.Values as form
use Rattle.gql_text_syntax.specs.declared.syntax.PlacedName.{PlacedName}
use Rattle.gql_text_syntax.specs.declared.syntax.Literal.{Literal}
use Rattle.gql_text_values.specs.declared.const_value.ConstValue.{ConstValue}
use Rattle.gql_sdl_readback.proofs.Texts.{FitsSort, Keeps}
use Rattle.gql_sdl_readback.proofs.Keeps.{any, name_keeps, refused_keeps, seq_keeps, map_keeps, alt_keeps, many_keeps}
use Rattle.gql_sdl_readback.proofs.Sound.{IsLeaf, null, number, string, boolean, enum, IsNest, leaf, list, object, IsSound}
use Rattle.gql_text.specs.DocumentOf.{const_value_of}
use Rattle.gql_sdl_rows.proofs.Values.{value_null, value_number, value_string, value_boolean, value_enum, value_list, entries_of, value_object}

-- the value that a written one stands for has this
abbrev pub Stands : (ConstValue → Type 0) → Literal → Type 0
Stands Has x = Has (const_value_of x)

-- ---- values without others in them

pub same_sort : (n k : ℕ) → among n (k ∷ []) ≡ true → n ≡ k
same_sort n k a = by_test (n == k) refl a
  where
    by_test : (t : Bool) → (n == k) ≡ t → (t || false) ≡ true → n ≡ k
    by_test true e a = eqb-true n k e
    by_test false e a = absurd cc

number_keeps : Keeps form.number (Stands IsLeaf)
unfolding form.number
number_keeps = map_keeps one_token (λ t w. subst IsLeaf (sym (value_number (whole_value t.text))) (number (whole_value t.text) w))
  where
    one_token : Keeps (token WholeNumber) (λ t. IsWithin (whole_value t.text))
    one_token = record { each = λ t ts m fit. (subst (AllByRecursion FitsSort) m.1 fit).0.number (same_sort t.sort (code WholeNumber) m.0) }

string_keeps : Keeps form.string (Stands IsLeaf)
unfolding form.string
string_keeps = map_keeps (any (one s.strings)) (λ t h. subst IsLeaf (sym (value_string (string_text t.text))) (string (string_text t.text)))

-- a name with the sort of its text
record IsWord (t : Terminal) : Type 0 where
  among_names : among t.sort s.names ≡ true
  is_name : IsName t.text
  sorted : t.sort ≡ s.name_sort t.text

none_of : (n : ℕ) → among n s.names ≡ true → (n == code WordTrue) ≡ false → (n == code WordFalse) ≡ false → (n == code WordNull) ≡ false → among n s.enum_names ≡ true
none_of n a e f h = rw (e, f, h) at a

word_leaf : (t : Terminal) → IsWord t → Stands IsLeaf (form.word_value t)
word_leaf t i = by_tests (t.sort == code WordNull) (t.sort == code WordTrue) (t.sort == code WordFalse) refl refl refl
  where
    by_tests : (n y f : Bool) → (t.sort == code WordNull) ≡ n → (t.sort == code WordTrue) ≡ y → (t.sort == code WordFalse) ≡ f → Stands IsLeaf (form.word_value t)
    by_tests true y f d e h = rw d (subst IsLeaf (sym value_null) null)
    by_tests false true f d e h = rw (d, e) (subst IsLeaf (sym (value_boolean true)) (boolean true))
    by_tests false false true d e h = rw (d, e, h) (subst IsLeaf (sym (value_boolean false)) (boolean false))
    by_tests false false false d e h =
        let name : among (s.name_sort t.text) s.enum_names ≡ true = subst (λ (n : ℕ). among n s.enum_names ≡ true) i.sorted (none_of t.sort i.among_names e h d) in
        rw (d, e, h) (subst IsLeaf (sym (value_enum t.text)) (enum t.text (i.is_name, name)))

word_keeps : Keeps form.word (Stands IsLeaf)
unfolding form.word
word_keeps = map_keeps one_token (λ t i. word_leaf t i)
  where
    one_token : Keeps (one s.names) IsWord
    one_token = record { each = λ t ts m fit. let f = (subst (AllByRecursion FitsSort) m.1 fit).0 in record { among_names = m.0; is_name = f.name m.0; sorted = f.sort m.0 } }

leaf_keeps : Keeps form.leaf (Stands IsLeaf)
unfolding form.leaf
leaf_keeps = alt_keeps number_keeps (alt_keeps string_keeps word_keeps)

no_number : (P : Literal → Type 0) → Keeps form.refused_number P
unfolding form.refused_number
no_number P = refused_keeps s.refused_numbers

-- ---- lists and objects of values

pub key_keeps : Keeps form.key (λ k. IsName k.name)
unfolding form.key
key_keeps = map_keeps name_keeps (λ t h. h)

module _ (Has : ConstValue → Type 0) (f : Form Literal) (k : Keeps f (Stands Has)) where
  all_stand : (xs : List Literal) → AllByRecursion (Stands Has) xs → AllByRecursion Has (map const_value_of xs)
  all_stand [] a = tt
  all_stand (x ∷ xs) a = (a.0, all_stand xs a.1)

  list_keeps : Keeps (form.bracketed_list f) (Stands (IsNest Has))
  unfolding form.bracketed_list
  list_keeps =
      map_keeps (seq_keeps (any (token OpenBracket)) (seq_keeps (many_keeps k) (any (token CloseBracket))))
      (λ p h. subst (IsNest Has) (sym (value_list p.1.0)) (list (map const_value_of p.1.0) (all_stand p.1.0 h.1.0)))

  entry_keeps : Keeps (form.entry f) (λ p. IsName p.0.name × Stands Has p.1)
  unfolding form.entry
  entry_keeps = map_keeps (seq_keeps key_keeps (seq_keeps (any (token Colon)) k)) (λ p h. (h.0, h.1.1))

  entries_stand : (ps : List (PlacedName × Literal)) → AllByRecursion (λ p. IsName p.0.name × Stands Has p.1) ps → AllByRecursion (λ e. IsName e.0 × Has e.1) (entries_of ps)
  entries_stand [] a = tt
  entries_stand (p ∷ ps) a = (a.0, entries_stand ps a.1)

  object_keeps : Keeps (form.object f) (Stands (IsNest Has))
  unfolding form.object
  object_keeps =
      map_keeps (seq_keeps (any (token OpenBrace)) (seq_keeps (many_keeps entry_keeps) (any (token CloseBrace))))
      (λ p h. subst (IsNest Has) (sym (value_object p.1.0)) (object (entries_of p.1.0) (entries_stand p.1.0 h.1.0)))

  nests_keep : Keeps (form.value_with (form.nest_with f)) (Stands (IsNest Has))
  unfolding form.value_with form.nest_with
  nests_keep = alt_keeps nest_leaf (alt_keeps (no_number (Stands (IsNest Has))) (alt_keeps list_keeps object_keeps))
    where
      nest_leaf : Keeps form.leaf (Stands (IsNest Has))
      nest_leaf = record { each = λ x ts m fit. leaf (leaf_keeps.each x ts m fit) }

leaves_keep : Keeps (form.value_with (refused s.nests)) (Stands IsLeaf)
unfolding form.value_with
leaves_keep = alt_keeps leaf_keeps (alt_keeps (no_number (Stands IsLeaf)) (refused_keeps s.nests))

pub values_keep : (n : ℕ) → Keeps (form.value_with (form.nested n)) (Stands (IsSound n))
unfolding IsSound form.nested
values_keep zero = leaves_keep
values_keep (suc n) = nests_keep (IsSound n) (form.value_with (form.nested n)) (values_keep n)

pub value_keeps : Keeps g.value (Stands (IsSound 64))
value_keeps = record { each = λ x ts m fit. (values_keep 64).each x ts m fit }
