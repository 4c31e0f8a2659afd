-- The texts of lists and objects.
use Rattle.std.proofs.Common.{◌≡◌, ◌++◌, ℕ, List, [], ◌∷◌, map, codes, refl, ap, sym, ◌∙◌}
use Rattle.std.proofs.lemmas.List.Folds.{flat_map-map}
use Rattle.std.specs.List.{join_by}
use Rattle.gql_text_values.specs.ConstValues.{entry_text, value_text, value_text_step}
use Rattle.gql_text_values.specs.declared.const_value.ConstValue.{ConstValue}
use Rattle.gql_text_values.specs.declared.const_value.ConstValue.TheFolds.{fold-roll-ConstValue}
use Rattle.gql_text_values.specs.declared.const_value.ConstValue.TheOpen.{ConstValue-F}
use Rattle.gql_text_values.specs.declared.const_value.ConstValue.TheVariants as cv

pub join_by-map : {X Y : Type 0} (f : Y → List ℕ) (g : X → Y) (sep : List ℕ) (xs : List X) → join_by f sep (map g xs) ≡ join_by (λ x. f (g x)) sep xs
join_by-map f g sep [] = refl
join_by-map f g sep (x ∷ xs) = ap (λ r. f (g x) ++ r) (flat_map-map (λ y. sep ++ f y) g xs)

pub list_text : (items : List ConstValue) → value_text (cv.List items) ≡ codes "[" ++ join_by value_text (codes ", ") items ++ codes "]"
list_text items =
    ap value_text (sym (cv.rolls-List items))
    ∙ fold-roll-ConstValue (List ℕ) value_text_step (ConstValue-F.List items)
    ∙ ap (λ (r : List ℕ). codes "[" ++ r ++ codes "]") (join_by-map (λ t. t) value_text (codes ", ") items)

pub object_text : (entries : List (List ℕ × ConstValue)) →
    value_text (cv.Object entries) ≡ codes "{" ++ join_by (λ e. entry_text (e.0, value_text e.1)) (codes ", ") entries ++ codes "}"
object_text entries =
    ap value_text (sym (cv.rolls-Object entries))
    ∙ fold-roll-ConstValue (List ℕ) value_text_step (ConstValue-F.Object entries)
    ∙ ap (λ (r : List ℕ). codes "{" ++ r ++ codes "}") (join_by-map entry_text (λ (e : List ℕ × ConstValue). (e.0, value_text e.1)) (codes ", ") entries)
