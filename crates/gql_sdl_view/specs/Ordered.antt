-- Parts in the order of their names, parts of one name in their old order.
use Rattle.std.specs.Prelude.{Bool, true, false, List, [], ◌∷◌, if◌then◌else◌, map}
use Rattle.std.specs.Ordering.{is_lt}
use Rattle.gql_registry_meta.specs.Parts.{Text, text_cmp}

-- whether a name goes before another: byte by byte
abbrev pub goes_before : Text → Text → Bool
goes_before a b = is_lt (text_cmp a b)

module _ {X : Type 0} (earlier : X → X → Bool) where
  -- a part at its place among sorted ones: before the first that is not earlier
  abbrev pub placed : X → List X → List X
  placed x [] = x ∷ []
  placed x (y ∷ ys) = if earlier y x then y ∷ placed x ys else x ∷ y ∷ ys

  -- each part placed among those after it
  abbrev pub sorted : List X → List X
  sorted [] = []
  sorted (x ∷ xs) = placed x (sorted xs)

-- in the order of their names where that is asked, and else as they stand
abbrev pub arranged : {X : Type 0} → (X → Text) → Bool → List X → List X
arranged name true parts = sorted (λ a b. goes_before (name a) (name b)) parts
arranged name false parts = parts

-- each value changed, under its key
abbrev pub changed : {X Y : Type 0} → (X → Y) → List (Text × X) → List (Text × Y)
changed change entries = map (λ entry. (entry.0, change entry.1)) entries
