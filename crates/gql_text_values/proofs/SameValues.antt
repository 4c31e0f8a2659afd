-- Equality of constant values is that of their plain data.
use Rattle.std.proofs.Common.{◌≡◌, ◌↔◌, IsTrue, ℕ, List, [], ◌∷◌, map, length, refl, ap, sym, ◌∙◌, subst, rules}
use Rattle.std.specs.Prelude.{◌==◌}
use Rattle.gql_text_values.specs.SameValue.{Value, Values, Entries, null, number, text, boolean, enum, list, object, no_value, value, no_entry, entry, values_of, entries_of, plain, plain_step, same, same_values, same_entries}
use Rattle.gql_text_values.specs.EqualValues.{same_decides}
use Rattle.gql_text_values.specs.declared.const_value.ConstValue.{ConstValue}
use Rattle.gql_text_values.specs.declared.const_value.ConstValue.TheFolds.{fold-roll-ConstValue, ind-ConstValue, map-ConstValue}
use Rattle.gql_text_values.specs.declared.const_value.ConstValue.TheOpen.{ConstValue-F}
use Rattle.gql_text_values.specs.declared.const_value.ConstValue.TheViews.{roll-ConstValue}
use Rattle.gql_text_values.specs.declared.const_value.ConstValue.TheVariants as cv

-- an entry with its value as plain data
abbrev pub plain_entry : List ℕ × ConstValue → List ℕ × Value
plain_entry e = (e.0, plain e.1)

-- ---- what is left after the last item

pub values_end : (rest : List ConstValue) → (length rest == 0) ≡ same_values no_value (values_of (map plain rest))
values_end [] = refl
values_end (v ∷ vs) = search rules

pub entries_end : (rest : List (List ℕ × ConstValue)) → (length rest == 0) ≡ same_entries no_entry (entries_of (map plain_entry rest))
entries_end [] = refl
entries_end (e ∷ es) = search rules

-- ---- one level of the plain data

pub plain_list : (items : List ConstValue) → plain (cv.List items) ≡ list (values_of (map plain items))
plain_list items = ap plain (sym (cv.rolls-List items)) ∙ fold-roll-ConstValue Value plain_step (ConstValue-F.List items)

pub plain_object : (entries : List (List ℕ × ConstValue)) → plain (cv.Object entries) ≡ object (entries_of (map plain_entry entries))
plain_object entries = ap plain (sym (cv.rolls-Object entries)) ∙ fold-roll-ConstValue Value plain_step (ConstValue-F.Object entries)

-- ---- the value of plain data

abbrev mutual
  built : Value → ConstValue
  built null = cv.Null
  built (number n) = cv.Number n
  built (text t) = cv.String t
  built (boolean b) = cv.Boolean b
  built (enum name) = cv.Enum name
  built (list vs) = cv.List (built_values vs)
  built (object es) = cv.Object (built_entries es)

  built_values : Values → List ConstValue
  built_values no_value = []
  built_values (value v vs) = built v ∷ built_values vs

  built_entries : Entries → List (List ℕ × ConstValue)
  built_entries no_entry = []
  built_entries (entry k v es) = (k, built v) ∷ built_entries es

abbrev IsBuilt : ConstValue → Type 0
IsBuilt v = built (plain v) ≡ v

built_list : (vs : List ((v : ConstValue) × IsBuilt v)) → built_values (values_of (map plain (map (λ e. e.0) vs))) ≡ map (λ e. e.0) vs
built_list [] = refl
built_list (e ∷ vs) = let h = e.1 in let k = built_list vs in cc

built_object : (es : List (List ℕ × ((v : ConstValue) × IsBuilt v))) →
    built_entries (entries_of (map plain_entry (map (λ e. (e.0, e.1.0)) es))) ≡ map (λ e. (e.0, e.1.0)) es
built_object [] = refl
built_object (e ∷ es) = let h = e.1.1 in let k = built_object es in cc

-- one level, with a proof beside each inner value
built_layer : (y : ConstValue-F ((v : ConstValue) × IsBuilt v)) → IsBuilt (roll-ConstValue (map-ConstValue ((v : ConstValue) × IsBuilt v) ConstValue (λ e. e.0) y))
built_layer ConstValue-F.Null = ap built (fold-roll-ConstValue Value plain_step ConstValue-F.Null) ∙ sym cv.rolls-Null
built_layer (ConstValue-F.Number n) = ap built (fold-roll-ConstValue Value plain_step (ConstValue-F.Number n)) ∙ sym (cv.rolls-Number n)
built_layer (ConstValue-F.String t) = ap built (fold-roll-ConstValue Value plain_step (ConstValue-F.String t)) ∙ sym (cv.rolls-String t)
built_layer (ConstValue-F.Boolean b) = ap built (fold-roll-ConstValue Value plain_step (ConstValue-F.Boolean b)) ∙ sym (cv.rolls-Boolean b)
built_layer (ConstValue-F.Enum name) = ap built (fold-roll-ConstValue Value plain_step (ConstValue-F.Enum name)) ∙ sym (cv.rolls-Enum name)
built_layer (ConstValue-F.List vs) =
    ap built (fold-roll-ConstValue Value plain_step (ConstValue-F.List (map (λ e. e.0) vs)))
    ∙ ap cv.List (built_list vs) ∙ sym (cv.rolls-List (map (λ e. e.0) vs))
built_layer (ConstValue-F.Object es) =
    ap built (fold-roll-ConstValue Value plain_step (ConstValue-F.Object (map (λ e. (e.0, e.1.0)) es)))
    ∙ ap cv.Object (built_object es) ∙ sym (cv.rolls-Object (map (λ e. (e.0, e.1.0)) es))

pub is_built : (v : ConstValue) → IsBuilt v
is_built = ind-ConstValue IsBuilt (λ x y is. subst (λ z. IsBuilt (roll-ConstValue z)) is (built_layer y))

-- the test on plain data decides equality of values
pub same_exact : (a b : ConstValue) → IsTrue (same (plain a) (plain b)) ↔ (a ≡ b)
same_exact a b = (
  (λ t. sym (is_built a) ∙ ap built ((same_decides (plain a) (plain b)).0 t) ∙ is_built b),
  (λ e. (same_decides (plain a) (plain b)).1 (ap plain e)),
)
