-- Sums of weights, and one element of the second list changed.
use Rattle.std.proofs.Common.{arith, ◌≡◌, ◌<◌, ◌≤◌, ◌+◌, ℕ, zero, suc, List, [], ◌∷◌, length, get_or, set, replicate, refl}
use Rattle.gql_check_cycles.specs.Graph.{weighted_sum}

pub weighted_sum-set : {A B : Type 0} (w : A → B → ℕ) (d : B) (e : A) (xs : List A) (bs : List B) (i : ℕ) (v : B) → i < length xs → i < length bs → weighted_sum w d xs (set bs i v) + w (get_or xs i e) (get_or bs i d) ≡ weighted_sum w d xs bs + w (get_or xs i e) v
weighted_sum-set w d e [] bs i v h k = absurd (omega arith)
weighted_sum-set w d e (x ∷ xs) [] i v h k = absurd (omega arith)
weighted_sum-set w d e (x ∷ xs) (b ∷ bs) zero v h k = omega arith
weighted_sum-set w d e (x ∷ xs) (b ∷ bs) (suc i) v h k = omega (arith, weighted_sum-set w d e xs bs i v (omega arith) (omega arith))

-- a list of defaults weighs what none weighs
pub weighted_sum-replicate : {A B : Type 0} (w : A → B → ℕ) (d : B) (xs : List A) (n : ℕ) → weighted_sum w d xs (replicate n d) ≡ weighted_sum w d xs []
weighted_sum-replicate w d [] n = refl
weighted_sum-replicate w d (x ∷ xs) zero = refl
weighted_sum-replicate w d (x ∷ xs) (suc n) = omega (arith, weighted_sum-replicate w d xs n)

-- one weight is below another
pub weighted_sum-le : {A B : Type 0} (w v : A → B → ℕ) (d : B) (xs : List A) (bs : List B) → ((x : A) (b : B) → w x b ≤ v x b) → weighted_sum w d xs bs ≤ weighted_sum v d xs bs
weighted_sum-le w v d [] bs h = omega arith
weighted_sum-le w v d (x ∷ xs) [] h = omega (arith, h x d, weighted_sum-le w v d xs [] h)
weighted_sum-le w v d (x ∷ xs) (b ∷ bs) h = omega (arith, h x b, weighted_sum-le w v d xs bs h)
