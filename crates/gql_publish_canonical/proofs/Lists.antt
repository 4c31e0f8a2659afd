-- Lists in name order, changed and chosen item by item.
use Rattle.std.proofs.Common.{◌≡◌, Bool, true, false, cond, List, [], ◌∷◌, ◌++◌, map, filter, refl, ap, ◌∙◌}
use Rattle.std.specs.Prelude.{if◌then◌else◌}
use Rattle.std.specs.List.{AllByRecursion, AllZip}
use Rattle.std.specs.Map.{values_of}
use Rattle.std.proofs.lemmas.Simd.{map-map}
use Rattle.gql_registry_meta.specs.Parts.{Text}
use Rattle.gql_sdl_view.specs.Ordered.{goes_before, placed, sorted, arranged}

-- ---- order and change

module _ {X Y : Type 0} (change : X → Y) (before : Y → Y → Bool) where
  abbrev earlier : X → X → Bool
  earlier a b = before (change a) (change b)

  placed_map : (x : X) (xs : List X) → placed before (change x) (map change xs) ≡ map change (placed earlier x xs)
  placed_map x [] = refl
  placed_map x (y ∷ ys) = by_test (earlier y x) (placed_map x ys)
    where
      by_test : (t : Bool) → placed before (change x) (map change ys) ≡ map change (placed earlier x ys)
          → (if t then change y ∷ placed before (change x) (map change ys) else change x ∷ change y ∷ map change ys) ≡ map change (if t then y ∷ placed earlier x ys else x ∷ y ∷ ys)
      by_test true e = ap (λ (l : List Y). change y ∷ l) e
      by_test false e = refl

  sorted_map : (xs : List X) → sorted before (map change xs) ≡ map change (sorted earlier xs)
  sorted_map [] = refl
  sorted_map (x ∷ xs) = ap (placed before (change x)) (sorted_map xs) ∙ placed_map x (sorted earlier xs)

-- a list that is changed and then arranged is arranged and then changed
pub arranged_map : {X Y : Type 0} (change : X → Y) (name : Y → Text) (t : Bool) (xs : List X) → arranged name t (map change xs) ≡ map change (arranged (λ x. name (change x)) t xs)
arranged_map change name true xs = sorted_map change (λ a b. goes_before (name a) (name b)) xs
arranged_map change name false xs = refl

-- the values of entries that are made of some items
pub arranged_values : {X M : Type 0} (entry : X → Text × M) (name : M → Text) (t : Bool) (xs : List X)
    → values_of (arranged (λ (e : Text × M). name e.1) t (map entry xs)) ≡ map (λ x. (entry x).1) (arranged (λ x. name (entry x).1) t xs)
arranged_values {X} {M} entry name t xs = ap values_of (arranged_map entry (λ (e : Text × M). name e.1) t xs) ∙ map-map (λ (e : Text × M). e.1) entry (arranged (λ x. name (entry x).1) t xs)

-- ---- what each item has

module _ {X : Type 0} (P : X → Type 0) (before : X → X → Bool) where
  all_placed : (x : X) (xs : List X) → P x → AllByRecursion P xs → AllByRecursion P (placed before x xs)
  all_placed x [] p a = (p, tt)
  all_placed x (y ∷ ys) p a = by_test (before y x) (all_placed x ys p a.1)
    where
      by_test : (t : Bool) → AllByRecursion P (placed before x ys) → AllByRecursion P (if t then y ∷ placed before x ys else x ∷ y ∷ ys)
      by_test true b = (a.0, b)
      by_test false b = (p, a)

  all_sorted : (xs : List X) → AllByRecursion P xs → AllByRecursion P (sorted before xs)
  all_sorted [] a = tt
  all_sorted (x ∷ xs) a = all_placed x (sorted before xs) a.0 (all_sorted xs a.1)

pub all_arranged : {X : Type 0} (P : X → Type 0) (name : X → Text) (t : Bool) (xs : List X) → AllByRecursion P xs → AllByRecursion P (arranged name t xs)
all_arranged P name true xs a = all_sorted P (λ x y. goes_before (name x) (name y)) xs a
all_arranged P name false xs a = a

pub all_filter : {X : Type 0} (P : X → Type 0) (test : X → Bool) (xs : List X) → AllByRecursion P xs → AllByRecursion P (filter test xs)
all_filter P test [] a = tt
all_filter {X} P test (x ∷ xs) a = by_test (test x) (all_filter P test xs a.1)
  where
    by_test : (t : Bool) → AllByRecursion P (filter test xs) → AllByRecursion P (cond t (x ∷ filter test xs) (filter test xs))
    by_test true b = (a.0, b)
    by_test false b = b

pub all_append : {X : Type 0} (P : X → Type 0) (xs ys : List X) → AllByRecursion P xs → AllByRecursion P ys → AllByRecursion P (xs ++ ys)
all_append P [] ys a b = b
all_append P (x ∷ xs) ys a b = (a.0, all_append P xs ys a.1 b)

pub all_map : {X Y : Type 0} (P : X → Type 0) (Q : Y → Type 0) (change : X → Y) → ((x : X) → P x → Q (change x)) → (xs : List X) → AllByRecursion P xs → AllByRecursion Q (map change xs)
all_map P Q change each [] a = tt
all_map P Q change each (x ∷ xs) a = (each x a.0, all_map P Q change each xs a.1)

pub all_weaken : {X : Type 0} (P Q : X → Type 0) → ((x : X) → P x → Q x) → (xs : List X) → AllByRecursion P xs → AllByRecursion Q xs
all_weaken P Q each [] a = tt
all_weaken P Q each (x ∷ xs) a = (each x a.0, all_weaken P Q each xs a.1)

-- what is made of each item in two ways
pub zip_maps : {X M C : Type 0} (P : X → Type 0) (Shows : M → C → Type 0) (m : X → M) (c : X → C) → ((x : X) → P x → Shows (m x) (c x)) → (xs : List X) → AllByRecursion P xs → AllZip Shows (map m xs) (map c xs)
zip_maps P Shows m c each [] a = tt
zip_maps P Shows m c each (x ∷ xs) a = (each x a.0, zip_maps P Shows m c each xs a.1)

-- what passes a test after a change
pub filter_map_is : {X Y : Type 0} (change : X → Y) (test : Y → Bool) (xs : List X) → filter test (map change xs) ≡ map change (filter (λ x. test (change x)) xs)
filter_map_is change test [] = refl
filter_map_is {X} {Y} change test (x ∷ xs) = by_test (test (change x)) (filter_map_is change test xs)
  where
    by_test : (t : Bool) → filter test (map change xs) ≡ map change (filter (λ x. test (change x)) xs)
        → cond t (change x ∷ filter test (map change xs)) (filter test (map change xs)) ≡ map change (cond t (x ∷ filter (λ x. test (change x)) xs) (filter (λ x. test (change x)) xs))
    by_test true e = ap (λ (l : List Y). change x ∷ l) e
    by_test false e = e

pub filter_all : {X : Type 0} (xs : List X) → filter (λ (x : X). true) xs ≡ xs
filter_all [] = refl
filter_all {X} (x ∷ xs) = ap (λ (l : List X). x ∷ l) (filter_all xs)

pub anything : {X : Type 0} (xs : List X) → AllByRecursion (λ x. Unit {0}) xs
anything [] = tt
anything (x ∷ xs) = (tt, anything xs)
