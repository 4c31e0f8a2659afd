-- Entries in name order, and entries under distinct names.
use Rattle.std.proofs.Common.{◌≡◌, Bool, true, false, cond, List, [], ◌∷◌, map, None, refl, sym, ap, ap₂, ◌∙◌}
use Rattle.std.specs.Prelude.{if◌then◌else◌}
use Rattle.std.specs.List.{AllByRecursion, IsDistinct}
use Rattle.std.specs.Str.{bytes_eq}
use Rattle.gql_registry_meta.specs.Parts.{Text, at_text}
use Rattle.gql_check_rules.specs.Order.{HasDistinctNames, inserted, sorted as sorted_entries}
use Rattle.gql_check_code.specs.Definitions.{each_of}
use Rattle.gql_sdl_view.specs.Ordered.{goes_before, placed, arranged}
use Rattle.gql_publish_canonical.proofs.Lists.{arranged_map}
use Rattle.gql_publish_canonical.proofs.Orders.{again}

-- ---- name order

abbrev by_name : {M : Type 0} → Text × M → Text × M → Bool
by_name a b = goes_before a.0 b.0

inserted_is : {M : Type 0} (x : Text × M) (ys : List (Text × M)) → inserted goes_before x ys ≡ placed by_name x ys
inserted_is x [] = refl
inserted_is {M} x (y ∷ ys) = by_test (goes_before y.0 x.0) (inserted_is x ys)
  where
    by_test : (t : Bool) → inserted goes_before x ys ≡ placed by_name x ys → cond t (y ∷ inserted goes_before x ys) (x ∷ y ∷ ys) ≡ (if t then y ∷ placed by_name x ys else x ∷ y ∷ ys)
    by_test true e = ap (λ (l : List (Text × M)). y ∷ l) e
    by_test false e = refl

-- the sorting of the rules is that of views
pub sorted_is : {M : Type 0} (xs : List (Text × M)) → sorted_entries goes_before xs ≡ arranged (λ (e : Text × M). e.0) true xs
sorted_is [] = refl
sorted_is {M} (x ∷ xs) = inserted_is x (sorted_entries goes_before xs) ∙ ap (placed by_name x) (sorted_is xs)

arranged_first : {X : Type 0} (name : X → Text) (t : Bool) (xs : List X) → arranged name true (arranged name t xs) ≡ arranged name true xs
arranged_first name true xs = again name true xs
arranged_first name false xs = refl

-- items that are arranged and changed have the same entries in name order
pub resorted : {X M : Type 0} (change : X → X) (entry : X → Text × M) (t : Bool) → ((x : X) → entry (change x) ≡ entry x) → (xs : List X)
    → sorted_entries goes_before (map entry (map change (arranged (λ x. (entry x).0) t xs))) ≡ sorted_entries goes_before (map entry xs)
resorted {X} {M} change entry t same xs =
    let name : X → Text = λ x. (entry x).0 in
    ap (sorted_entries goes_before) (each (arranged name t xs)) ∙ entries (arranged name t xs) ∙ ap (map entry) (arranged_first name t xs) ∙ sym (entries xs)
  where
    each : (ys : List X) → map entry (map change ys) ≡ map entry ys
    each [] = refl
    each (y ∷ ys) = ap₂ (λ (e : Text × M) (l : List (Text × M)). e ∷ l) (same y) (each ys)

    entries : (ys : List X) → sorted_entries goes_before (map entry ys) ≡ map entry (arranged (λ x. (entry x).0) true ys)
    entries ys = sorted_is (map entry ys) ∙ arranged_map entry (λ (e : Text × M). e.0) true ys

-- ---- distinct names

module _ {X Y : Type 0} (name : X → Text) (of : X → Y) where
  none_at : (n : Text) (xs : List X) → AllByRecursion (λ m. bytes_eq n m ≡ false) (map name xs) → at_text n (map (λ (x : X). (name x, of x)) xs) ≡ None
  none_at n [] a = refl
  none_at n (x ∷ xs) a = rw a.0 (none_at n xs a.1)

  -- entries of items whose names are distinct
  pub distinct_entries : (xs : List X) → IsDistinct bytes_eq (map name xs) → HasDistinctNames (map (λ (x : X). (name x, of x)) xs)
  unfolding IsDistinct
  distinct_entries [] u = tt
  distinct_entries (x ∷ xs) u = (none_at (name x) xs u.0, distinct_entries xs u.1)

-- entries that are made of entries
pub twice_mapped : {X M N : Type 0} (entry : X → Text × M) (of : M → N) (xs : List X) → each_of of (map entry xs) ≡ map {B = Text × N} (λ x. ((entry x).0, of (entry x).1)) xs
twice_mapped entry of [] = refl
twice_mapped {X} {M} {N} entry of (x ∷ xs) = ap (λ (l : List (Text × N)). ((entry x).0, of (entry x).1) ∷ l) (twice_mapped entry of xs)
