-- When lists of faults are empty.
use Rattle.std.proofs.Common.{◌≡◌, Bool, true, false, cond, List, [], ◌∷◌, ◌++◌, map, flat_map, refl, ap, ap₂, ◌∙◌}
use Rattle.std.specs.Prelude.{not, ◌&&◌}
use Rattle.std.specs.List.{list_all}
use Rattle.gql_text_syntax.specs.declared.syntax.PlacedName.{PlacedName}
use Rattle.gql_text.specs.Owners.{Names, no_names, with_seen_name, duplicates}
use Rattle.gql_registry_meta.specs.Parts.{Text, is_empty}
use Rattle.gql_sdl_rows.specs.Faultless.{are_new, are_distinct}

-- one list, and then another
pub both_empty : {F : Type 0} (a b : List F) → is_empty (a ++ b) ≡ (is_empty a && is_empty b)
both_empty [] b = refl
both_empty (x ∷ a) b = refl

-- two tests that each stand for another
pub both_tests : {F : Type 0} (a b : List F) (p q : Bool) → is_empty a ≡ p → is_empty b ≡ q → is_empty (a ++ b) ≡ (p && q)
both_tests a b p q e f = both_empty a b ∙ ap₂ (λ (x y : Bool). x && y) e f

-- a fault where a test holds
pub one_where : {F : Type 0} (t : Bool) (f : F) → is_empty (cond t (f ∷ []) []) ≡ not t
one_where true f = refl
one_where false f = refl

-- what each item of a list gives
pub all_empty : {X Y F : Type 0} (faults : X → List F) (of : X → Y) (test : Y → Bool) → ((x : X) → is_empty (faults x) ≡ test (of x)) → (xs : List X) → is_empty (flat_map faults xs) ≡ list_all test (map of xs)
all_empty faults of test each [] = refl
all_empty faults of test each (x ∷ xs) = both_tests (faults x) (flat_map faults xs) (test (of x)) (list_all test (map of xs)) (each x) (all_empty faults of test each xs)

-- the same tests of what is made of each item
pub all_stay : {X Y : Type 0} (of : X → Y) (test : Y → Bool) (same : X → Bool) → ((x : X) → test (of x) ≡ same x) → (xs : List X) → list_all test (map of xs) ≡ list_all same xs
all_stay of test same each [] = refl
all_stay of test same each (x ∷ xs) = ap₂ (λ (a b : Bool). a && b) (each x) (all_stay of test same each xs)

-- ---- names that repeat

-- each name that is among the earlier ones
pub none_repeat : (earlier : Names) (keys : List PlacedName) → is_empty (duplicates earlier keys) ≡ are_new earlier (map (λ k. k.name) keys)
none_repeat earlier [] = refl
none_repeat earlier (k ∷ keys) =
    both_tests _ (duplicates (with_seen_name k.name earlier) keys) (not (earlier k.name)) (are_new (with_seen_name k.name earlier) (map (λ k. k.name) keys)) (one_where (earlier k.name) _) (none_repeat (with_seen_name k.name earlier) keys)

-- the names of the keys of some items
pub keys_differ : {X : Type 0} (key : X → PlacedName) (name : X → Text) → ((x : X) → (key x).name ≡ name x) → (xs : List X) → is_empty (duplicates no_names (map key xs)) ≡ are_distinct (map name xs)
keys_differ {X} key name same xs = none_repeat no_names (map key xs) ∙ ap are_distinct (names_are xs)
  where
    names_are : (xs : List X) → map (λ (k : PlacedName). k.name) (map key xs) ≡ map name xs
    names_are [] = refl
    names_are (x ∷ xs) = ap₂ (λ (n : Text) (ns : List Text). n ∷ ns) (same x) (names_are xs)
