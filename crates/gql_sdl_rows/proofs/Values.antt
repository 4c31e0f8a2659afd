-- The text of a constant value says it.
use Rattle.std.proofs.Common.{◌≡◌, ℕ, zero, suc, ℤ, Bool, true, false, List, [], ◌∷◌, ◌++◌, map, codes, refl, sym, ap, ap₂, ◌∙◌, append_assoc, rules, arith}
use Rattle.std.specs.Prelude.{◌==◌}
use Rattle.std.specs.Fmt.{signed_decimal}
use Rattle.std.specs.List.{AllByRecursion, AllZip, join_by}
use Rattle.std.proofs.lemmas.Bool.{eqb-true}
use Rattle.std.proofs.lemmas.Bool.Decides.{nat_tests}
use Rattle.gql_grammar.specs.Form.{Terminal, Form, among, alt}
use Rattle.gql_text_lexer.specs.Bytes.{goes_on_name, goes_on_number, quotation_mark, ends_before}
use Rattle.gql_text_lexer.specs.Forms.{IsName}
use Rattle.gql_text_lexer.specs.Quoting.{quote}
use Rattle.gql_text_lexer.specs.Whole.{IsWithin}
use Rattle.gql_text_lexer.proofs.Runs.{ends_less}
use Rattle.gql_text_syntax.specs.Grammar as g
use Rattle.gql_text_syntax.specs.Sorts as s
use Rattle.gql_text_syntax.specs.Sorts.{code}
use Rattle.gql_text_syntax.specs.declared.sort.Sort.TheVariants.{CloseBrace, CloseBracket, WordFalse, WordNull, WordTrue}
use Rattle.gql_text_syntax.specs.Values as form
use Rattle.gql_text_syntax.specs.declared.syntax.PlacedName.{PlacedName}
use Rattle.gql_text_syntax.specs.declared.syntax.Literal.{Literal}
use Rattle.gql_text_syntax.specs.declared.syntax.Literal.TheFolds.{fold-roll-Literal, the_lemmas as literal_lemmas}
use Rattle.gql_text_syntax.specs.declared.syntax.Literal.TheOpen.{Literal-F}
use Rattle.gql_text_syntax.specs.declared.syntax.Literal.TheVariants as lit
use Rattle.gql_text_syntax.proofs.TokenSorts.{names_among}
use Rattle.gql_text_values.specs.ConstValues.{entry_text, value_text}
use Rattle.gql_text_values.specs.declared.const_value.ConstValue.{ConstValue}
use Rattle.gql_text_values.specs.declared.const_value.ConstValue.TheFolds.{the_lemmas}
use Rattle.gql_text_values.specs.declared.const_value.ConstValue.TheVariants as cv
use Rattle.gql_text_values.proofs.Writing.{list_text, object_text}
use Rattle.gql_sdl_readback.proofs.Texts.{Says}
use Rattle.gql_sdl_readback.proofs.Says.{blank, word_says, name_says, sign_says, sign_then, joined, left, right, mapped, declared_says, limited_says, SaysEach}
use Rattle.gql_text.specs.DocumentOf.{const_value_by, const_value_of}
use Rattle.gql_sdl_rows.specs.Literals.{goes_on_value}
use Rattle.gql_sdl_readback.proofs.Lists.{separated_says}
use Rattle.gql_sdl_readback.proofs.Numbers.{number_says}
use Rattle.gql_sdl_readback.proofs.Sound.{IsEnumName, IsLeaf, null, number, string, boolean, enum, IsNest, leaf, list, object, IsSound}
use Rattle.gql_sdl_readback.proofs.Strings.{quoted_says}

-- the written value stands for this one
abbrev pub StandsFor : ConstValue → Literal → Type 0
StandsFor v x = const_value_of x ≡ v

-- ---- what may follow

name_less : (b : ℕ) → goes_on_value b ≡ false → goes_on_name b ≡ false
name_less b h = grind (arith, nat_tests)

number_less : (b : ℕ) → goes_on_value b ≡ false → goes_on_number b ≡ false
number_less b h = grind (arith, nat_tests)

quote_less : (b : ℕ) → goes_on_value b ≡ false → (b == quotation_mark) ≡ false
quote_less b h = grind (arith, nat_tests)

abbrev pub EndsValue : List ℕ → Type 0
EndsValue rest = ends_before goes_on_value rest ≡ true

pub ends_name : (rest : List ℕ) → EndsValue rest → ends_before goes_on_name rest ≡ true
ends_name rest k = ends_less goes_on_name goes_on_value name_less rest k

-- ---- the equations of texts and of values

text_null : value_text cv.Null ≡ codes "null"
text_null = search (rules, the_lemmas)

text_number : (z : ℤ) → value_text (cv.Number z) ≡ signed_decimal z
text_number z = search (rules, the_lemmas)

text_string : (text : List ℕ) → value_text (cv.String text) ≡ quote text
text_string text = search (rules, the_lemmas)

text_true : value_text (cv.Boolean true) ≡ codes "true"
text_true = search (rules, the_lemmas)

text_false : value_text (cv.Boolean false) ≡ codes "false"
text_false = search (rules, the_lemmas)

text_enum : (name : List ℕ) → value_text (cv.Enum name) ≡ name
text_enum name = search (rules, the_lemmas)

pub value_null : const_value_of lit.Null ≡ cv.Null
value_null = search (rules, literal_lemmas)

pub value_number : (z : ℤ) → const_value_of (lit.Number z) ≡ cv.Number z
value_number z = search (rules, literal_lemmas)

pub value_string : (text : List ℕ) → const_value_of (lit.String text) ≡ cv.String text
value_string text = search (rules, literal_lemmas)

pub value_boolean : (b : Bool) → const_value_of (lit.Boolean b) ≡ cv.Boolean b
value_boolean b = search (rules, literal_lemmas)

pub value_enum : (name : List ℕ) → const_value_of (lit.Enum name) ≡ cv.Enum name
value_enum name = search (rules, literal_lemmas)

pub value_list : (items : List Literal) → const_value_of (lit.List items) ≡ cv.List (map const_value_of items)
value_list items = ap const_value_of (sym (lit.rolls-List items)) ∙ fold-roll-Literal ConstValue const_value_by (Literal-F.List items)

-- entries without the places of their keys
abbrev pub entries_of : List (PlacedName × Literal) → List (List ℕ × ConstValue)
entries_of ps = map (λ (e : PlacedName × ConstValue). (e.0.name, e.1)) (map (λ (p : PlacedName × Literal). (p.0, const_value_of p.1)) ps)

pub value_object : (entries : List (PlacedName × Literal)) → const_value_of (lit.Object entries) ≡ cv.Object (entries_of entries)
value_object entries = ap const_value_of (sym (lit.rolls-Object entries)) ∙ fold-roll-Literal ConstValue const_value_by (Literal-F.Object entries)

-- ---- words

null_says : (rest : List ℕ) → ends_before goes_on_name rest ≡ true → Says form.word (StandsFor cv.Null) (codes "null") rest
unfolding form.word
null_says rest k = mapped (word_says s.names (codes "null") rest (refl, refl) refl k) (λ t h. by_sort t h.1)
  where
    by_sort : (t : Terminal) → t.sort ≡ code WordNull → const_value_of (form.word_value t) ≡ cv.Null
    by_sort t e = rw e value_null

true_says : (rest : List ℕ) → ends_before goes_on_name rest ≡ true → Says form.word (StandsFor (cv.Boolean true)) (codes "true") rest
unfolding form.word
true_says rest k = mapped (word_says s.names (codes "true") rest (refl, refl) refl k) (λ t h. by_sort t h.1)
  where
    by_sort : (t : Terminal) → t.sort ≡ code WordTrue → const_value_of (form.word_value t) ≡ cv.Boolean true
    by_sort t e = rw e (value_boolean true)

false_says : (rest : List ℕ) → ends_before goes_on_name rest ≡ true → Says form.word (StandsFor (cv.Boolean false)) (codes "false") rest
unfolding form.word
false_says rest k = mapped (word_says s.names (codes "false") rest (refl, refl) refl k) (λ t h. by_sort t h.1)
  where
    by_sort : (t : Terminal) → t.sort ≡ code WordFalse → const_value_of (form.word_value t) ≡ cv.Boolean false
    by_sort t e = rw e (value_boolean false)

-- a sort of one set is none of another
no_such : (set : List ℕ) (n k : ℕ) → among n set ≡ true → among k set ≡ false → (n == k) ≡ false
no_such set n k a o = by_test (n == k) refl
  where
    by_test : (t : Bool) → (n == k) ≡ t → t ≡ false
    by_test true e = let same : n ≡ k = eqb-true n k e in cc
    by_test false e = refl

enum_word : (t : Terminal) → among t.sort s.enum_names ≡ true → form.word_value t ≡ lit.Enum t.text
enum_word t a = rw (no_such s.enum_names t.sort (code WordNull) a refl, no_such s.enum_names t.sort (code WordTrue) a refl, no_such s.enum_names t.sort (code WordFalse) a refl) refl

enum_says : (name rest : List ℕ) → IsEnumName name → ends_before goes_on_name rest ≡ true → Says form.word (StandsFor (cv.Enum name)) name rest
unfolding form.word
enum_says name rest i k = mapped (word_says s.names name rest i.0 (names_among name) k) (λ t h. by_sort t h.0 h.1)
  where
    by_sort : (t : Terminal) → t.text ≡ name → t.sort ≡ s.name_sort name → const_value_of (form.word_value t) ≡ cv.Enum name
    by_sort t e f = ap const_value_of (enum_word t (rw f i.1)) ∙ value_enum t.text ∙ ap cv.Enum e

-- ---- values without others in them

-- the text of each of these values says it by the form, where no byte follows that goes on a value
abbrev pub SaysValues : (ConstValue → Type 0) → Form Literal → Type 0
SaysValues Has f = (v : ConstValue) (rest : List ℕ) → Has v → EndsValue rest → Says f (StandsFor v) (value_text v) rest

number_leaf : (z : ℤ) (rest : List ℕ) → IsWithin z → EndsValue rest → Says form.number (StandsFor (cv.Number z)) (signed_decimal z) rest
unfolding form.number
number_leaf z rest w k = mapped (number_says z rest w (ends_less goes_on_number goes_on_value number_less rest k)) (λ t h. value_number _ ∙ ap cv.Number h)

string_leaf : (text rest : List ℕ) → EndsValue rest → Says form.string (StandsFor (cv.String text)) (quote text) rest
unfolding form.string
string_leaf text rest k = mapped (quoted_says text rest (ends_less (λ b. b == quotation_mark) goes_on_value quote_less rest k)) (λ t h. value_string _ ∙ ap cv.String h)

leaf_says : SaysValues IsLeaf form.leaf
unfolding form.leaf
leaf_says _ rest null k = rw text_null (right _ (right _ (null_says rest (ends_name rest k))))
leaf_says _ rest (number z w) k = rw (text_number z) (left _ (number_leaf z rest w k))
leaf_says _ rest (string text) k = rw (text_string text) (right _ (left _ (string_leaf text rest k)))
leaf_says _ rest (boolean true) k = rw text_true (right _ (right _ (true_says rest (ends_name rest k))))
leaf_says _ rest (boolean false) k = rw text_false (right _ (right _ (false_says rest (ends_name rest k))))
leaf_says _ rest (enum name i) k = rw (text_enum name) (right _ (right _ (enum_says name rest i (ends_name rest k))))

-- ---- lists and objects of values

pub key_says : (name rest : List ℕ) → IsName name → ends_before goes_on_name rest ≡ true → Says form.key (λ k. k.name ≡ name) name rest
unfolding form.key
key_says name rest n k = mapped (name_says name rest n k) (λ t h. h)

items_stand : (items : List ConstValue) (xs : List Literal) → AllZip StandsFor items xs → map const_value_of xs ≡ items
items_stand [] [] h = refl
items_stand [] (x ∷ xs) h = absurd h
items_stand (v ∷ vs) [] h = absurd h
items_stand (v ∷ vs) (x ∷ xs) h = ap₂ (λ (y : ConstValue) (ys : List ConstValue). y ∷ ys) h.0 (items_stand vs xs h.1)

-- an entry of an object as it is written
abbrev IsEntry : List ℕ × ConstValue → PlacedName × Literal → Type 0
IsEntry e p = (p.0.name ≡ e.0) × StandsFor e.1 p.1

abbrev text_of : List ℕ × ConstValue → List ℕ
text_of e = entry_text (e.0, value_text e.1)

entries_stand : (entries : List (List ℕ × ConstValue)) (ps : List (PlacedName × Literal)) → AllZip IsEntry entries ps → entries_of ps ≡ entries
entries_stand [] [] h = refl
entries_stand [] (p ∷ ps) h = absurd h
entries_stand (e ∷ es) [] h = absurd h
entries_stand (e ∷ es) (p ∷ ps) h =
    let first : (p.0.name, const_value_of p.1) ≡ e = ap₂ (λ (k : List ℕ) (v : ConstValue). (k, v)) h.0.0 h.0.1 in
    ap₂ (λ (y : List ℕ × ConstValue) (ys : List (List ℕ × ConstValue)). y ∷ ys) first (entries_stand es ps h.1)

module _ (Has : ConstValue → Type 0) (f : Form Literal) (law : SaysValues Has f) where
  all_items : (items : List ConstValue) → AllByRecursion Has items → SaysEach f StandsFor value_text EndsValue items
  all_items [] a = tt
  all_items (v ∷ vs) a = (λ rest k. law v rest a.0 k, all_items vs a.1)

  -- "[" Value* "]"
  list_says : (items : List ConstValue) (rest : List ℕ) → AllByRecursion Has items → Says (form.bracketed_list f) (StandsFor (cv.List items)) (value_text (cv.List items)) rest
  unfolding form.bracketed_list
  list_says items rest a =
      rw (list_text items) (mapped (sign_then refl refl refl (joined (join_by value_text (codes ", ") items) (codes "]") rest
      (separated_says f StandsFor value_text EndsValue (codes ", ") (refl, (refl, tt)) (λ r. refl) items (codes "]" ++ rest) (all_items items a) refl) (sign_says 93 (code CloseBracket) rest refl refl refl)))
      (λ p h. value_list p.1.0 ∙ ap cv.List (items_stand items p.1.0 h.0)))

  -- Name ":" Value
  entry_says : (e : List ℕ × ConstValue) (rest : List ℕ) → IsName e.0 → Has e.1 → EndsValue rest → Says (form.entry f) (IsEntry e) (text_of e) rest
  unfolding form.entry
  entry_says e rest n i k =
      rw (append_assoc e.0 (codes ": ") (value_text e.1))
      (mapped (joined e.0 (codes ": " ++ value_text e.1) rest (key_says e.0 _ n refl) (sign_then refl refl refl (blank refl (law e.1 rest i k)))) (λ p h. h))

  all_entries : (entries : List (List ℕ × ConstValue)) → AllByRecursion (λ e. IsName e.0 × Has e.1) entries → SaysEach (form.entry f) IsEntry text_of EndsValue entries
  all_entries [] a = tt
  all_entries (e ∷ es) a = (λ rest k. entry_says e rest a.0.0 a.0.1 k, all_entries es a.1)

  -- "{" (Name ":" Value)* "}"
  object_says : (entries : List (List ℕ × ConstValue)) (rest : List ℕ) → AllByRecursion (λ e. IsName e.0 × Has e.1) entries → Says (form.object f) (StandsFor (cv.Object entries)) (value_text (cv.Object entries)) rest
  unfolding form.object
  object_says entries rest a =
      rw (object_text entries) (mapped (sign_then refl refl refl (joined (join_by text_of (codes ", ") entries) (codes "}") rest
      (separated_says (form.entry f) IsEntry text_of EndsValue (codes ", ") (refl, (refl, tt)) (λ r. refl) entries (codes "}" ++ rest) (all_entries entries a) refl) (sign_says 125 (code CloseBrace) rest refl refl refl)))
      (λ p h. value_object p.1.0 ∙ ap cv.Object (entries_stand entries p.1.0 h.0)))

  nests_say : SaysValues (IsNest Has) (form.value_with (form.nest_with f))
  unfolding form.value_with form.nest_with
  nests_say v rest (leaf i) k = left (alt form.refused_number (form.nest_with f)) (leaf_says v rest i k)
  nests_say _ rest (list items a) k = right form.leaf (right form.refused_number (left (form.object f) (list_says items rest a)))
  nests_say _ rest (object entries a) k = right form.leaf (right form.refused_number (right (form.bracketed_list f) (object_says entries rest a)))

leaves_say : (nested : Form Literal) → SaysValues IsLeaf (form.value_with nested)
unfolding form.value_with
leaves_say nested v rest i k = left _ (leaf_says v rest i k)

-- a value with at most n brackets open at once, by the form for n
pub values_say : (n : ℕ) → SaysValues (IsSound n) (form.value_with (form.nested n))
unfolding IsSound form.nested
values_say zero = leaves_say (form.nested zero)
values_say (suc n) = nests_say (IsSound n) (form.value_with (form.nested n)) (values_say n)

-- a value within the limit, where no byte follows that goes on a value
pub value_says : SaysValues (IsSound 64) g.value
value_says v rest i k = limited_says _ (declared_says _ _ _ (values_say 64 v rest i k))
