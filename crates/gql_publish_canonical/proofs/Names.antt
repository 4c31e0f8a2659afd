-- Names that do not repeat: in another order, without some of them, and with others after them.
use Rattle.std.proofs.Common.{◌≡◌, Bool, true, false, cond, List, [], ◌∷◌, ◌++◌, filter, map, refl, ap, ap₂, ◌∙◌}
use Rattle.std.specs.Prelude.{◌&&◌, ◌||◌, not, if◌then◌else◌}
use Rattle.std.specs.List.{AllByRecursion}
use Rattle.std.specs.Str.{bytes_eq}
use Rattle.gql_text.specs.Owners.{Names, no_names, with_seen_name}
use Rattle.gql_registry_meta.specs.Parts.{Text}
use Rattle.gql_sdl_view.specs.Ordered.{goes_before, placed, sorted, arranged}
use Rattle.gql_sdl_rows.specs.Faultless.{are_new, are_distinct}
use Rattle.gql_publish_canonical.proofs.Locations.{turned}

-- ---- sets of names

-- the same earlier names
new_same : (e f : Names) → ((n : Text) → e n ≡ f n) → (ns : List Text) → are_new e ns ≡ are_new f ns
new_same e f same [] = refl
new_same e f same (n ∷ ns) = ap₂ (λ (a b : Bool). not a && b) (same n) (new_same (with_seen_name n e) (with_seen_name n f) (λ m. ap (λ (b : Bool). bytes_eq n m || b) (same m)) ns)

or_swap : (a b c : Bool) → (a || (b || c)) ≡ (b || (a || c))
or_swap true true c = refl
or_swap true false c = refl
or_swap false b c = refl

-- two names seen in either order
seen_swap : (e : Names) (x y : Text) (ns : List Text) → are_new (with_seen_name x (with_seen_name y e)) ns ≡ are_new (with_seen_name y (with_seen_name x e)) ns
seen_swap e x y ns = new_same (with_seen_name x (with_seen_name y e)) (with_seen_name y (with_seen_name x e)) (λ n. or_swap (bytes_eq x n) (bytes_eq y n) (e n)) ns

swap_tests : (s a b t : Bool) → (not a && (not (s || b) && t)) ≡ (not b && (not (s || a) && t))
swap_tests true true true t = refl
swap_tests true true false t = refl
swap_tests true false true t = refl
swap_tests true false false t = refl
swap_tests false true true t = refl
swap_tests false true false t = refl
swap_tests false false true t = refl
swap_tests false false false t = refl

swapped : (e : Names) (y x : Text) (ns : List Text) → are_new e (y ∷ x ∷ ns) ≡ are_new e (x ∷ y ∷ ns)
swapped e y x ns =
    ap (λ (t : Bool). not (e y) && (not (bytes_eq y x || e x) && t)) (seen_swap e x y ns)
    ∙ ap (λ (s : Bool). not (e y) && (not (s || e x) && are_new (with_seen_name y (with_seen_name x e)) ns)) (turned y x)
    ∙ swap_tests (bytes_eq x y) (e y) (e x) (are_new (with_seen_name y (with_seen_name x e)) ns)

-- ---- in name order

module _ {X : Type 0} (name : X → Text) (before : X → X → Bool) where
  placed_new : (e : Names) (x : X) (ys : List X) → are_new e (map name (placed before x ys)) ≡ are_new e (name x ∷ map name ys)
  placed_new e x [] = refl
  placed_new e x (y ∷ ys) = by_test (before y x) (placed_new (with_seen_name (name y) e) x ys)
    where
      by_test : (t : Bool) → are_new (with_seen_name (name y) e) (map name (placed before x ys)) ≡ are_new (with_seen_name (name y) e) (name x ∷ map name ys)
          → are_new e (map name (if t then y ∷ placed before x ys else x ∷ y ∷ ys)) ≡ are_new e (name x ∷ name y ∷ map name ys)
      by_test true h = ap (λ (b : Bool). not (e (name y)) && b) h ∙ swapped e (name y) (name x) (map name ys)
      by_test false h = refl

  sorted_new : (e : Names) (xs : List X) → are_new e (map name (sorted before xs)) ≡ are_new e (map name xs)
  sorted_new e [] = refl
  sorted_new e (x ∷ xs) = placed_new e x (sorted before xs) ∙ ap (λ (b : Bool). not (e (name x)) && b) (sorted_new (with_seen_name (name x) e) xs)

pub arranged_distinct : {X : Type 0} (name by : X → Text) (t : Bool) (xs : List X) → are_distinct (map name (arranged by t xs)) ≡ are_distinct (map name xs)
arranged_distinct name by true xs = sorted_new name (λ x y. goes_before (by x) (by y)) no_names xs
arranged_distinct name by false xs = refl

-- ---- without some

both : (a b : Bool) → (a && b) ≡ true → (a ≡ true) × (b ≡ true)
both true b e = (refl, e)
both false b e = absurd cc

not_true : (a : Bool) → not a ≡ true → a ≡ false
not_true true e = absurd cc
not_true false e = refl

-- fewer earlier names
fewer : (e f : Names) → ((n : Text) → e n ≡ false → f n ≡ false) → (ns : List Text) → are_new e ns ≡ true → are_new f ns ≡ true
fewer e f less [] h = refl
fewer e f less (n ∷ ns) h =
    let tests = both (not (e n)) (are_new (with_seen_name n e) ns) h in
    rw (less n (not_true (e n) tests.0)) (fewer (with_seen_name n e) (with_seen_name n f) (λ m g. more (bytes_eq n m) (e m) (f m) (less m) g) ns tests.1)
  where
    more : (b x y : Bool) → (x ≡ false → y ≡ false) → (b || x) ≡ false → (b || y) ≡ false
    more true x y h g = absurd cc
    more false x y h g = h g

pub filter_new : {X : Type 0} (name : X → Text) (test : X → Bool) (e : Names) (xs : List X) → are_new e (map name xs) ≡ true → are_new e (map name (filter test xs)) ≡ true
filter_new name test e [] h = refl
filter_new {X} name test e (x ∷ xs) h =
    let tests = both (not (e (name x))) (are_new (with_seen_name (name x) e) (map name xs)) h in
    by_test (test x) tests.0 (filter_new name test (with_seen_name (name x) e) xs tests.1)
  where
    right_false : (b c : Bool) → (b || c) ≡ false → c ≡ false
    right_false true c g = absurd cc
    right_false false c g = g

    by_test : (t : Bool) → not (e (name x)) ≡ true → are_new (with_seen_name (name x) e) (map name (filter test xs)) ≡ true → are_new e (map name (cond t (x ∷ filter test xs) (filter test xs))) ≡ true
    by_test true p q = rw p q
    by_test false p q = fewer (with_seen_name (name x) e) e (λ n g. right_false (bytes_eq (name x) n) (e n) g) (map name (filter test xs)) q

-- ---- with others after them

-- one more earlier name, which is none of these
one_more : (e : Names) (x : Text) (ns : List Text) → AllByRecursion (λ n. bytes_eq x n ≡ false) ns → are_new e ns ≡ true → are_new (with_seen_name x e) ns ≡ true
one_more e x [] a h = refl
one_more e x (n ∷ ns) a h =
    let tests = both (not (e n)) (are_new (with_seen_name n e) ns) h in
    rw (a.0, tests.0) (seen_swap e n x ns ∙ one_more (with_seen_name n e) x ns a.1 tests.1)

-- each of the names is none of the others
abbrev pub AreApart : List Text → List Text → Type 0
AreApart ns ms = AllByRecursion (λ x. AllByRecursion (λ n. bytes_eq x n ≡ false) ms) ns

pub append_new : (e : Names) (ns ms : List Text) → AreApart ns ms → are_new e ns ≡ true → are_new e ms ≡ true → are_new e (ns ++ ms) ≡ true
append_new e [] ms a h k = k
append_new e (n ∷ ns) ms a h k =
    let tests = both (not (e n)) (are_new (with_seen_name n e) ns) h in
    rw tests.0 (append_new (with_seen_name n e) ns ms a.1 tests.1 (one_more e n ms a.0 k))
