-- Values without an owner fault are those that stand for values whose objects have no key twice.
use Rattle.std.proofs.Common.{◌≡◌, ℤ, Bool, true, List, [], ◌∷◌, map, flat_map, refl, sym, ap, ap₂, subst, ◌∙◌}
use Rattle.std.specs.Prelude.{◌&&◌}
use Rattle.std.specs.List.{list_all}
use Rattle.std.proofs.lemmas.Simd.{map-map}
use Rattle.gql_text_syntax.specs.declared.syntax.PlacedName.{PlacedName}
use Rattle.gql_text_syntax.specs.declared.syntax.Literal.{Literal}
use Rattle.gql_text_syntax.specs.declared.syntax.Literal.TheFolds.{fold-roll-Literal, ind-Literal, map-Literal}
use Rattle.gql_text_syntax.specs.declared.syntax.Literal.TheOpen.{Literal-F}
use Rattle.gql_text_syntax.specs.declared.syntax.Literal.TheViews.{roll-Literal}
use Rattle.gql_text_syntax.specs.declared.syntax.Literal.TheVariants as lit
use Rattle.gql_text_values.specs.declared.const_value.ConstValue.{ConstValue}
use Rattle.gql_text_values.specs.declared.const_value.ConstValue.TheFolds.{fold-roll-ConstValue}
use Rattle.gql_text_values.specs.declared.const_value.ConstValue.TheOpen.{ConstValue-F}
use Rattle.gql_text_values.specs.declared.const_value.ConstValue.TheVariants as cv
use Rattle.gql_text.specs.DocumentOf.{const_value_of}
use Rattle.gql_text.specs.Owners.{no_names, duplicates, value_faults, value_faults_by}
use Rattle.gql_text.proofs.Values.{value_faults_list, value_faults_object}
use Rattle.gql_registry_meta.specs.Parts.{Text, is_empty}
use Rattle.gql_sdl_rows.specs.Faultless.{are_distinct, distinct_keys_by, has_distinct_keys}
use Rattle.gql_sdl_rows.proofs.Empty.{both_tests, keys_differ}
use Rattle.gql_sdl_rows.proofs.Values.{value_null, value_number, value_string, value_boolean, value_enum, value_list, entries_of, value_object}

-- ---- the keys of lists and of objects

keys_list : (items : List ConstValue) → has_distinct_keys (cv.List items) ≡ list_all has_distinct_keys items
keys_list items = ap has_distinct_keys (sym (cv.rolls-List items)) ∙ fold-roll-ConstValue Bool distinct_keys_by (ConstValue-F.List items) ∙ each items
  where
    each : (items : List ConstValue) → list_all (λ item. item) (map has_distinct_keys items) ≡ list_all has_distinct_keys items
    each [] = refl
    each (v ∷ vs) = ap (λ (b : Bool). has_distinct_keys v && b) (each vs)

abbrev folded : Text × ConstValue → Text × Bool
folded e = (e.0, has_distinct_keys e.1)

keys_object : (entries : List (Text × ConstValue)) → has_distinct_keys (cv.Object entries) ≡ (are_distinct (map (λ e. e.0) entries) && list_all (λ e. has_distinct_keys e.1) entries)
keys_object entries =
    ap has_distinct_keys (sym (cv.rolls-Object entries)) ∙ fold-roll-ConstValue Bool distinct_keys_by (ConstValue-F.Object entries)
    ∙ ap₂ (λ (a b : Bool). a && b) (ap are_distinct (map-map (λ (e : Text × Bool). e.0) folded entries)) (each entries)
  where
    each : (entries : List (Text × ConstValue)) → list_all (λ (e : Text × Bool). e.1) (map folded entries) ≡ list_all (λ e. has_distinct_keys e.1) entries
    each [] = refl
    each (e ∷ es) = ap (λ (b : Bool). has_distinct_keys e.1 && b) (each es)

-- ---- every value

abbrev IsTold : Literal → Type 0
IsTold v = is_empty (value_faults v) ≡ has_distinct_keys (const_value_of v)

told_items : (vs : List ((v : Literal) × IsTold v)) → is_empty (flat_map value_faults (map (λ e. e.0) vs)) ≡ list_all has_distinct_keys (map const_value_of (map (λ e. e.0) vs))
told_items [] = refl
told_items (e ∷ vs) =
    both_tests (value_faults e.0) (flat_map value_faults (map (λ e. e.0) vs)) (has_distinct_keys (const_value_of e.0)) (list_all has_distinct_keys (map const_value_of (map (λ e. e.0) vs))) e.1 (told_items vs)

abbrev Entries : Type 0
Entries = List (PlacedName × ((v : Literal) × IsTold v))

abbrev bare : Entries → List (PlacedName × Literal)
bare es = map (λ e. (e.0, e.1.0)) es

told_entries : (es : Entries) → is_empty (flat_map (λ e. value_faults e.1) (bare es)) ≡ list_all (λ e. has_distinct_keys e.1) (entries_of (bare es))
told_entries [] = refl
told_entries (e ∷ es) =
    both_tests (value_faults e.1.0) (flat_map (λ e. value_faults e.1) (bare es)) (has_distinct_keys (const_value_of e.1.0)) (list_all (λ e. has_distinct_keys e.1) (entries_of (bare es))) e.1.1 (told_entries es)

told_keys : (es : List (PlacedName × Literal)) → is_empty (duplicates no_names (map (λ e. e.0) es)) ≡ are_distinct (map (λ e. e.0) (entries_of es))
told_keys es = keys_differ (λ (e : PlacedName × Literal). e.0) (λ (e : PlacedName × Literal). e.0.name) (λ e. refl) es ∙ ap are_distinct (sym (names_are es))
  where
    names_are : (es : List (PlacedName × Literal)) → map (λ (e : Text × ConstValue). e.0) (entries_of es) ≡ map (λ (e : PlacedName × Literal). e.0.name) es
    names_are [] = refl
    names_are (e ∷ es) = ap (λ (l : List Text). e.0.name ∷ l) (names_are es)

-- a value without others in it
told_leaf : (v : Literal) (w : ConstValue) → is_empty (value_faults v) ≡ true → const_value_of v ≡ w → has_distinct_keys w ≡ true → IsTold v
told_leaf v w e f g = e ∙ sym (ap has_distinct_keys f ∙ g)

told_null : IsTold lit.Null
told_null =
    told_leaf lit.Null cv.Null (ap (λ x. is_empty (value_faults x)) (sym lit.rolls-Null) ∙ ap is_empty (fold-roll-Literal _ value_faults_by Literal-F.Null)) value_null
    (ap has_distinct_keys (sym cv.rolls-Null) ∙ fold-roll-ConstValue Bool distinct_keys_by ConstValue-F.Null)

told_number : (n : ℤ) → IsTold (lit.Number n)
told_number n =
    told_leaf (lit.Number n) (cv.Number n) (ap (λ x. is_empty (value_faults x)) (sym (lit.rolls-Number n)) ∙ ap is_empty (fold-roll-Literal _ value_faults_by (Literal-F.Number n))) (value_number n)
    (ap has_distinct_keys (sym (cv.rolls-Number n)) ∙ fold-roll-ConstValue Bool distinct_keys_by (ConstValue-F.Number n))

told_string : (text : Text) → IsTold (lit.String text)
told_string text =
    told_leaf (lit.String text) (cv.String text) (ap (λ x. is_empty (value_faults x)) (sym (lit.rolls-String text)) ∙ ap is_empty (fold-roll-Literal _ value_faults_by (Literal-F.String text))) (value_string text)
    (ap has_distinct_keys (sym (cv.rolls-String text)) ∙ fold-roll-ConstValue Bool distinct_keys_by (ConstValue-F.String text))

told_boolean : (b : Bool) → IsTold (lit.Boolean b)
told_boolean b =
    told_leaf (lit.Boolean b) (cv.Boolean b) (ap (λ x. is_empty (value_faults x)) (sym (lit.rolls-Boolean b)) ∙ ap is_empty (fold-roll-Literal _ value_faults_by (Literal-F.Boolean b))) (value_boolean b)
    (ap has_distinct_keys (sym (cv.rolls-Boolean b)) ∙ fold-roll-ConstValue Bool distinct_keys_by (ConstValue-F.Boolean b))

told_enum : (name : Text) → IsTold (lit.Enum name)
told_enum name =
    told_leaf (lit.Enum name) (cv.Enum name) (ap (λ x. is_empty (value_faults x)) (sym (lit.rolls-Enum name)) ∙ ap is_empty (fold-roll-Literal _ value_faults_by (Literal-F.Enum name))) (value_enum name)
    (ap has_distinct_keys (sym (cv.rolls-Enum name)) ∙ fold-roll-ConstValue Bool distinct_keys_by (ConstValue-F.Enum name))

-- one level, with a proof beside each inner value
told_layer : (y : Literal-F ((v : Literal) × IsTold v)) → IsTold (roll-Literal (map-Literal ((v : Literal) × IsTold v) Literal (λ e. e.0) y))
told_layer Literal-F.Null = subst IsTold (sym lit.rolls-Null) told_null
told_layer (Literal-F.Number n) = subst IsTold (sym (lit.rolls-Number n)) (told_number n)
told_layer (Literal-F.String text) = subst IsTold (sym (lit.rolls-String text)) (told_string text)
told_layer (Literal-F.Boolean b) = subst IsTold (sym (lit.rolls-Boolean b)) (told_boolean b)
told_layer (Literal-F.Enum name) = subst IsTold (sym (lit.rolls-Enum name)) (told_enum name)
told_layer (Literal-F.List vs) =
    let items : List Literal = map (λ e. e.0) vs in
    subst IsTold (sym (lit.rolls-List items))
    (ap is_empty (value_faults_list items) ∙ told_items vs ∙ sym (keys_list (map const_value_of items)) ∙ ap has_distinct_keys (sym (value_list items)))
told_layer (Literal-F.Object es) =
    let entries : List (PlacedName × Literal) = bare es in
    subst IsTold (sym (lit.rolls-Object entries))
    (ap is_empty (value_faults_object entries)
    ∙ both_tests (duplicates no_names (map (λ e. e.0) entries)) (flat_map (λ e. value_faults e.1) entries) (are_distinct (map (λ e. e.0) (entries_of entries))) (list_all (λ e. has_distinct_keys e.1) (entries_of entries)) (told_keys entries)
    (told_entries es)
    ∙ sym (keys_object (entries_of entries)) ∙ ap has_distinct_keys (sym (value_object entries)))

pub value_told : (v : Literal) → is_empty (value_faults v) ≡ has_distinct_keys (const_value_of v)
value_told = ind-Literal IsTold (λ x y is. subst (λ z. IsTold (roll-Literal z)) is (told_layer y))
