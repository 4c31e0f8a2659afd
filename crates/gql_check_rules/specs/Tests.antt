-- Tests in a fixed order, each with its fault: the first one that finds something.
use Rattle.std.specs.Prelude.{Bool, true, false, List, [], ◌∷◌, Option, Some, None}

-- the fault, where the test holds
abbrev pub fault_if : {F : Type 0} → Bool → F → Option F
fault_if true fault = Some fault
fault_if false fault = None

-- the first of two
abbrev pub or_else : {F : Type 0} → Option F → Option F → Option F
or_else (Some fault) more = Some fault
or_else None more = more

-- the first of a list
abbrev pub first_of : {F : Type 0} → List (Option F) → Option F
first_of [] = None
first_of (test ∷ tests) = or_else test (first_of tests)

-- the first that a test finds in the members of a list
abbrev pub first_in : {X F : Type 0} → (X → Option F) → List X → Option F
first_in test [] = None
first_in test (x ∷ xs) = or_else (test x) (first_in test xs)

-- what a test finds where there is something, and else this
abbrev pub found_or : {X F : Type 0} → Option X → (X → Option F) → Option F → Option F
found_or None test absent = absent
found_or (Some x) test absent = test x
