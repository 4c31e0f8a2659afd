-- Lists without an item.
use Rattle.std.proofs.Common.{arith, ◌≡◌, ◌==◌, List, [], ◌∷◌, length, refl}
use Rattle.gql_registry_meta.specs.Parts.{is_empty}

-- a list has no item where its length is 0
pub is_empty-length : {X : Type 0} (xs : List X) → is_empty xs ≡ (length xs == 0)
is_empty-length [] = refl
is_empty-length (x ∷ xs) = grind arith
