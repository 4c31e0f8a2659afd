-- Sets that grow by a step.
use Rattle.std.specs.Prelude.{ℕ, zero, suc, Bool, false}

-- what so many steps make of the empty set
abbrev pub repeated : {X : Type 0} → ((X → Bool) → X → Bool) → ℕ → X → Bool
repeated step zero x = false
repeated step (suc n) x = step (repeated step n) x
