-- Lists in name order: put in order again they are themselves, and what is chosen of them is in order.
use Rattle.std.proofs.Common.{◌≡◌, Bool, true, false, cond, List, [], ◌∷◌, filter, refl, sym, ap, ◌∙◌}
use Rattle.std.specs.Prelude.{◌||◌, if◌then◌else◌}
use Rattle.std.specs.Cmp.{IsStrictWeakOrder}
use Rattle.std.specs.List.{AllByRecursion, list_any}
use Rattle.std.proofs.lemmas.Cmp.{nat_list_cmp_total}
use Rattle.std.proofs.lemmas.List.MinMax.{ranks_by}
use Rattle.gql_registry_meta.specs.Parts.{Text}
use Rattle.gql_sdl_view.specs.Ordered.{goes_before, placed, sorted, arranged}
use Rattle.gql_publish_canonical.proofs.Lists.{all_filter, all_weaken}

module _ {X : Type 0} (before : X → X → Bool) (order : IsStrictWeakOrder before) where
  -- none of these goes before it
  abbrev IsLeast : X → List X → Type 0
  IsLeast x ys = AllByRecursion (λ y. before y x ≡ false) ys

  -- none goes before an earlier one
  abbrev Ascends : List X → Type 0
  Ascends [] = Unit {0}
  Ascends (x ∷ xs) = IsLeast x xs × Ascends xs

  least_placed : (y x : X) (ys : List X) → before x y ≡ false → IsLeast y ys → IsLeast y (placed before x ys)
  least_placed y x [] p a = (p, tt)
  least_placed y x (z ∷ zs) p a = by_test (before z x) (least_placed y x zs p a.1)
    where
      by_test : (t : Bool) → IsLeast y (placed before x zs) → IsLeast y (if t then z ∷ placed before x zs else x ∷ z ∷ zs)
      by_test true b = (a.0, b)
      by_test false b = (p, a)

  placed_ascends : (x : X) (ys : List X) → Ascends ys → Ascends (placed before x ys)
  placed_ascends x [] a = (tt, tt)
  placed_ascends x (y ∷ ys) a = by_test (before y x) refl (placed_ascends x ys a.1)
    where
      by_test : (t : Bool) → before y x ≡ t → Ascends (placed before x ys) → Ascends (if t then y ∷ placed before x ys else x ∷ y ∷ ys)
      by_test true e b = (least_placed y x ys (order.one_way y x e) a.0, b)
      by_test false e b = ((e, all_weaken (λ z. before z y ≡ false) (λ z. before z x ≡ false) (λ z p. order.chain z y x p e) ys a.0), a)

  sorted_ascends : (xs : List X) → Ascends (sorted before xs)
  sorted_ascends [] = tt
  sorted_ascends (x ∷ xs) = placed_ascends x (sorted before xs) (sorted_ascends xs)

  placed_least : (x : X) (ys : List X) → IsLeast x ys → placed before x ys ≡ x ∷ ys
  placed_least x [] a = refl
  placed_least x (y ∷ ys) a = rw a.0 refl

  -- a list in order
  sorted_again : (xs : List X) → Ascends xs → sorted before xs ≡ xs
  sorted_again [] a = refl
  sorted_again (x ∷ xs) a = ap (placed before x) (sorted_again xs a.1) ∙ placed_least x xs a.0

  filter_placed : (test : X → Bool) (x : X) (ys : List X) → Ascends ys → filter test (placed before x ys) ≡ cond (test x) (placed before x (filter test ys)) (filter test ys)
  filter_placed test x [] a = refl
  filter_placed test x (y ∷ ys) a = by_tests (before y x) refl (filter_placed test x ys a.1)
    where
      passing : (p q : Bool) (fs : List X) → before y x ≡ true → cond q (y ∷ cond p (placed before x fs) fs) (cond p (placed before x fs) fs) ≡ cond p (placed before x (cond q (y ∷ fs) fs)) (cond q (y ∷ fs) fs)
      passing true true fs e = rw e refl
      passing true false fs e = refl
      passing false true fs e = refl
      passing false false fs e = refl

      standing : (p : Bool) (fs : List X) → IsLeast x fs → cond p (x ∷ fs) fs ≡ cond p (placed before x fs) fs
      standing true fs l = sym (placed_least x fs l)
      standing false fs l = refl

      by_tests : (t : Bool) → before y x ≡ t → filter test (placed before x ys) ≡ cond (test x) (placed before x (filter test ys)) (filter test ys)
          → filter test (if t then y ∷ placed before x ys else x ∷ y ∷ ys) ≡ cond (test x) (placed before x (filter test (y ∷ ys))) (filter test (y ∷ ys))
      by_tests true e h = ap (λ (l : List X). cond (test y) (y ∷ l) l) h ∙ passing (test x) (test y) (filter test ys) e
      by_tests false e h =
          standing (test x) (filter test (y ∷ ys))
          (all_filter (λ z. before z x ≡ false) test (y ∷ ys) (e, all_weaken (λ z. before z y ≡ false) (λ z. before z x ≡ false) (λ z p. order.chain z y x p e) ys a.0))

  filter_sorted : (test : X → Bool) (xs : List X) → filter test (sorted before xs) ≡ sorted before (filter test xs)
  filter_sorted test [] = refl
  filter_sorted test (x ∷ xs) = filter_placed test x (sorted before xs) (sorted_ascends xs) ∙ by_test (test x) (filter_sorted test xs)
    where
      by_test : (t : Bool) → filter test (sorted before xs) ≡ sorted before (filter test xs)
          → cond t (placed before x (filter test (sorted before xs))) (filter test (sorted before xs)) ≡ sorted before (cond t (x ∷ filter test xs) (filter test xs))
      by_test true h = ap (placed before x) h
      by_test false h = h

module _ {X : Type 0} (before : X → X → Bool) (test : X → Bool) where
  or_swap : (a b c : Bool) → (a || (b || c)) ≡ (b || (a || c))
  or_swap true true c = refl
  or_swap true false c = refl
  or_swap false b c = refl

  any_placed : (x : X) (ys : List X) → list_any test (placed before x ys) ≡ (test x || list_any test ys)
  any_placed x [] = refl
  any_placed x (y ∷ ys) = by_test (before y x) (any_placed x ys)
    where
      by_test : (t : Bool) → list_any test (placed before x ys) ≡ (test x || list_any test ys) → list_any test (if t then y ∷ placed before x ys else x ∷ y ∷ ys) ≡ (test x || (test y || list_any test ys))
      by_test true h = ap (λ (b : Bool). test y || b) h ∙ or_swap (test y) (test x) (list_any test ys)
      by_test false h = refl

  any_sorted : (xs : List X) → list_any test (sorted before xs) ≡ list_any test xs
  any_sorted [] = refl
  any_sorted (x ∷ xs) = any_placed x (sorted before xs) ∙ ap (λ (b : Bool). test x || b) (any_sorted xs)

name_order : {X : Type 0} (name : X → Text) → IsStrictWeakOrder (λ (x y : X). goes_before (name x) (name y))
name_order name = ranks_by nat_list_cmp_total name

-- what is arranged is arranged
pub again : {X : Type 0} (name : X → Text) (t : Bool) (xs : List X) → arranged name t (arranged name t xs) ≡ arranged name t xs
again name true xs = sorted_again (λ x y. goes_before (name x) (name y)) (name_order name) (sorted (λ x y. goes_before (name x) (name y)) xs) (sorted_ascends (λ x y. goes_before (name x) (name y)) (name_order name) xs)
again name false xs = refl

-- what is chosen of what is arranged
pub arranged_filter : {X : Type 0} (name : X → Text) (test : X → Bool) (xs : List X) → filter test (arranged name true xs) ≡ arranged name true (filter test xs)
arranged_filter name test xs = filter_sorted (λ x y. goes_before (name x) (name y)) (name_order name) test xs

-- a test of any item
pub any_arranged : {X : Type 0} (name : X → Text) (t : Bool) (test : X → Bool) (xs : List X) → list_any test (arranged name t xs) ≡ list_any test xs
any_arranged name true test xs = any_sorted (λ x y. goes_before (name x) (name y)) test xs
any_arranged name false test xs = refl
