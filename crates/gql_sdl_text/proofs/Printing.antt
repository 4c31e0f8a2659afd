-- Texts of lists of parts, each changed.
use Rattle.std.proofs.Common.{◌≡◌, ◌∷◌, [], ◌++◌, Bool, ◌||◌, List, length, map, refl, ap, ◌∙◌, codes}
use Rattle.std.specs.List.{join_by, list_any}
use Rattle.std.proofs.lemmas.List.Folds.{flat_map-map}
use Rattle.gql_registry_meta.specs.Parts.{Text, InputValue}
use Rattle.gql_sdl_view.specs.Options.{Layout}
use Rattle.gql_sdl_view.specs.Spelling.{body_text, is_described, argument_list, arguments_text, bare_value_text, bare_arguments_text}

module _ {X Y : Type 0} (text : Y → Text) (change : X → Y) where
  pub join_by_map : (separator : Text) (xs : List X) → join_by text separator (map change xs) ≡ join_by (λ x. text (change x)) separator xs
  join_by_map separator [] = refl
  join_by_map separator (x ∷ xs) = ap (λ (t : Text). text (change x) ++ t) (flat_map-map (λ y. separator ++ text y) change xs)

  pub body_text_map : (xs : List X) → body_text text (map change xs) ≡ body_text (λ x. text (change x)) xs
  body_text_map [] = refl
  body_text_map (x ∷ xs) = ap (λ (t : Text). codes " {\n" ++ (t ++ codes "}")) (flat_map-map text change (x ∷ xs))

pub list_any_map : {X Y : Type 0} (test : Y → Bool) (change : X → Y) (xs : List X) → list_any test (map change xs) ≡ list_any (λ x. test (change x)) xs
list_any_map test change [] = refl
list_any_map test change (x ∷ xs) = ap (λ b. test (change x) || b) (list_any_map test change xs)

-- arguments, of which there are some
pub arguments_some : {X : Type 0} (layout : Layout) (change : X → InputValue) (xs : List X) → (length xs ≡ 0 → ⊥) → (b : Bool) → list_any (λ x. is_described (change x)) xs ≡ b
    → arguments_text layout (map change xs) ≡ argument_list layout b (map change xs)
arguments_some layout change [] h b e = absurd (h refl)
arguments_some layout change (x ∷ xs) h b e = ap (λ d. argument_list layout d (map change (x ∷ xs))) (list_any_map is_described change (x ∷ xs) ∙ e)

-- arguments of a directive definition, of which there are some
pub bare_some : {X : Type 0} (change : X → InputValue) (xs : List X) → (length xs ≡ 0 → ⊥) → bare_arguments_text (map change xs) ≡ codes "(" ++ (join_by bare_value_text (codes ", ") (map change xs) ++ codes ")")
bare_some change [] h = absurd (h refl)
bare_some change (x ∷ xs) h = refl
