-- Two lists in order that have the same items at each tie, in the same order, are one list.
use Rattle.std.proofs.Common.{arith, add-one, suc, ◌≡◌, Bool, true, false, cond, not, ◌&&◌, List, [], ◌∷◌, filter, refl, sym, ap, ap₂, subst, ◌∙◌}
use Rattle.std.specs.Cmp.{IsStrictWeakOrder}
use Rattle.std.specs.List.Sorted.{ties, IsSortedBy}
use Rattle.gql_sdl_view.specs.Ordered.{placed, sorted}

-- P of each item
abbrev pub Each : {X : Type 0} → (X → Type 0) → List X → Type 0
Each P [] = Unit {0}
Each P (x ∷ xs) = P x × Each P xs

-- each item is not greater than those after it
abbrev pub Ascends : {X : Type 0} → (X → X → Bool) → List X → Type 0
Ascends lt [] = Unit {0}
Ascends lt (x ∷ xs) = Each (λ y. lt y x ≡ false) xs × Ascends lt xs

first_step : {X : Type 0} (P : X → Type 0) (x : X) (xs : List X) (w : X) (rest : List X) → P x → (xs ≡ w ∷ rest → P w) → (b : Bool) → cond b (x ∷ xs) xs ≡ w ∷ rest → P w
first_step P x xs w rest here there true e = let same : x ≡ w = cc e in subst P same here
first_step P x xs w rest here there false e = there e

-- what holds of each item holds of the first that passes
first_has : {X : Type 0} (P : X → Type 0) (p : X → Bool) (l : List X) (w : X) (rest : List X) → Each P l → filter p l ≡ w ∷ rest → P w
first_has P p [] w rest a e = cc e
first_has P p (x ∷ xs) w rest a e = first_step P x (filter p xs) w rest a.0 (first_has P p xs w rest a.1) (p x) e

tail_step : {X : Type 0} (y : X) (fs gs : List X) (b : Bool) → cond b (y ∷ fs) fs ≡ cond b (y ∷ gs) gs → fs ≡ gs
tail_step y fs gs true e = cc e
tail_step y fs gs false e = e

different : true ≡ false → ⊥
different e = cc e

and_false : (a : Bool) → a && false ≡ false
and_false true = refl
and_false false = refl

and_left : (a b : Bool) → a && b ≡ true → a ≡ true
and_left true b e = refl
and_left false b e = e

not_true : (a : Bool) → not a ≡ true → a ≡ false
not_true true e = sym e
not_true false e = refl

swap_step : {X : Type 0} (x y : X) (fp fs : List X) (c d : Bool) → (c ≡ true → d ≡ false) → fp ≡ cond c (x ∷ fs) fs → cond d (y ∷ fp) fp ≡ cond c (x ∷ cond d (y ∷ fs) fs) (cond d (y ∷ fs) fs)
swap_step x y fp fs true true h e = absurd (different (h refl))
swap_step x y fp fs true false h e = e
swap_step x y fp fs false d h e = ap (λ l. cond d (y ∷ l) l) e

module _ {X : Type 0} (lt : X → X → Bool) (order : IsStrictWeakOrder lt) where
  irreflexive_step : (x : X) (b : Bool) → lt x x ≡ b → lt x x ≡ false
  irreflexive_step x true e = order.one_way x x e
  irreflexive_step x false e = e

  irreflexive : (x : X) → lt x x ≡ false
  irreflexive x = irreflexive_step x (lt x x) refl

  tied : (x y : X) → lt x y ≡ false → lt y x ≡ false → ties lt x y ≡ true
  tied x y p q = ap₂ (λ a b. not a && not b) p q

  -- the first that ties with y, of a list that begins with y
  own_first : (x y : X) (ys : List X) → ties lt x y ≡ true → filter (ties lt x) (y ∷ ys) ≡ y ∷ filter (ties lt x) ys
  own_first x y ys t = ap (λ b. cond b (y ∷ filter (ties lt x) ys) (filter (ties lt x) ys)) t

  lower : (y : X) (ys : List X) (z : X) (rest : List X) → Ascends lt (y ∷ ys) → filter (ties lt z) (y ∷ ys) ≡ z ∷ rest → lt z y ≡ false
  lower y ys z rest a e = first_has (λ w. lt w y ≡ false) (ties lt z) (y ∷ ys) z rest (irreflexive y, a.0) e

  pub ascending_unique : (ys zs : List X) → Ascends lt ys → Ascends lt zs → ((x : X) → filter (ties lt x) ys ≡ filter (ties lt x) zs) → ys ≡ zs
  ascending_unique [] [] a b h = refl
  ascending_unique [] (z ∷ zs) a b h = cc (h z ∙ own_first z z zs (tied z z (irreflexive z) (irreflexive z)))
  ascending_unique (y ∷ ys) [] a b h = cc (sym (h y) ∙ own_first y y ys (tied y y (irreflexive y) (irreflexive y)))
  ascending_unique (y ∷ ys) (z ∷ zs) a b h =
      let low = lower y ys z (filter (ties lt z) zs) a (h z ∙ own_first z z zs (tied z z (irreflexive z) (irreflexive z))) in
      let high = lower z zs y (filter (ties lt y) ys) b (sym (h y) ∙ own_first y y ys (tied y y (irreflexive y) (irreflexive y))) in
      let heads : y ∷ filter (ties lt y) ys ≡ z ∷ filter (ties lt y) zs =
      sym (own_first y y ys (tied y y (irreflexive y) (irreflexive y))) ∙ h y ∙ own_first y z zs (tied y z high low) in
      let same : y ≡ z = cc heads in
      ap₂ (λ w ws. w ∷ ws) same (ascending_unique ys zs a.1 b.1 (λ x.
      tail_step y (filter (ties lt x) ys) (filter (ties lt x) zs) (ties lt x y)
      (h x ∙ ap (λ w. cond (ties lt x w) (w ∷ filter (ties lt x) zs) (filter (ties lt x) zs)) (sym same))))

  -- ---- the sort of the definitions ascends, and keeps ties in their order

  apart_step : (w x y : X) → lt y x ≡ true → ties lt w x ≡ true → (b : Bool) → lt y w ≡ b → ties lt w y ≡ false
  apart_step w x y p t true e = ap (λ b. not (lt w y) && not b) e ∙ and_false (not (lt w y))
  apart_step w x y p t false e = let low : lt y x ≡ false = order.chain y w x e (not_true (lt w x) (and_left (not (lt w x)) (not (lt x w)) t)) in absurd (different (sym p ∙ low))

  placed_step : (w x y : X) (ys : List X) → filter (ties lt w) (placed lt x ys) ≡ filter (ties lt w) (x ∷ ys) → (b : Bool) → lt y x ≡ b
      → filter (ties lt w) (cond b (y ∷ placed lt x ys) (x ∷ y ∷ ys)) ≡ filter (ties lt w) (x ∷ y ∷ ys)
  placed_step w x y ys ih true e = swap_step x y _ (filter (ties lt w) ys) (ties lt w x) (ties lt w y) (λ t. apart_step w x y e t (lt y w) refl) ih
  placed_step w x y ys ih false e = refl

  placed_stable : (w x : X) (ys : List X) → filter (ties lt w) (placed lt x ys) ≡ filter (ties lt w) (x ∷ ys)
  placed_stable w x [] = refl
  placed_stable w x (y ∷ ys) = placed_step w x y ys (placed_stable w x ys) (lt y x) refl

  pub sorted_stable : (w : X) (xs : List X) → filter (ties lt w) (sorted lt xs) ≡ filter (ties lt w) xs
  sorted_stable w [] = refl
  sorted_stable w (x ∷ xs) = placed_stable w x (sorted lt xs) ∙ ap (λ l. cond (ties lt w x) (x ∷ l) l) (sorted_stable w xs)

  each_step : (P : X → Type 0) (x y : X) (ys zs : List X) (b : Bool) → P x → P y → Each P ys → Each P zs → Each P (cond b (y ∷ zs) (x ∷ y ∷ ys))
  each_step P x y ys zs true px py pys pzs = (py, pzs)
  each_step P x y ys zs false px py pys pzs = (px, (py, pys))

  each_placed : (P : X → Type 0) (x : X) (ys : List X) → P x → Each P ys → Each P (placed lt x ys)
  each_placed P x [] px a = (px, tt)
  each_placed P x (y ∷ ys) px a = each_step P x y ys (placed lt x ys) (lt y x) px a.0 a.1 (each_placed P x ys px a.1)

  each_more : (P Q : X → Type 0) (ys : List X) → ((y : X) → P y → Q y) → Each P ys → Each Q ys
  each_more P Q [] f a = tt
  each_more P Q (y ∷ ys) f a = (f y a.0, each_more P Q ys f a.1)

  ascends_step : (x y : X) (ys : List X) → Ascends lt (y ∷ ys) → Ascends lt (placed lt x ys) → (b : Bool) → lt y x ≡ b → Ascends lt (cond b (y ∷ placed lt x ys) (x ∷ y ∷ ys))
  ascends_step x y ys a ih true e = (each_placed (λ z. lt z y ≡ false) x ys (order.one_way y x e) a.0, ih)
  ascends_step x y ys a ih false e = ((e, each_more (λ z. lt z y ≡ false) (λ z. lt z x ≡ false) ys (λ z h. order.chain z y x h e) a.0), a)

  placed_ascends : (x : X) (ys : List X) → Ascends lt ys → Ascends lt (placed lt x ys)
  placed_ascends x [] a = (tt, tt)
  placed_ascends x (y ∷ ys) a = ascends_step x y ys a (placed_ascends x ys a.1) (lt y x) refl

  pub sorted_ascends : (xs : List X) → Ascends lt (sorted lt xs)
  sorted_ascends [] = tt
  sorted_ascends (x ∷ xs) = placed_ascends x (sorted lt xs) (sorted_ascends xs)

  -- a stable sort gives the sorted list
  pub stable_sort_is : (xs ys : List X) → Ascends lt ys → ((w : X) → filter (ties lt w) ys ≡ filter (ties lt w) xs) → ys ≡ sorted lt xs
  stable_sort_is xs ys a h = ascending_unique ys (sorted lt xs) a (sorted_ascends xs) (λ w. h w ∙ sym (sorted_stable w xs))

  adjacent_tail : (x : X) (xs : List X) → IsSortedBy lt (x ∷ xs) → IsSortedBy lt xs
  adjacent_tail x xs h = λ k d low high. rw add-one (rw add-one at (h (suc k) d (omega arith) (omega arith)))

  ascends_more : (x y : X) (ys : List X) → lt y x ≡ false → Ascends lt (y ∷ ys) → Ascends lt (x ∷ y ∷ ys)
  ascends_more x y ys e a = ((e, each_more (λ z. lt z y ≡ false) (λ z. lt z x ≡ false) ys (λ z h. order.chain z y x h e) a.0), a)

  -- what std's sorts ensure
  pub ascends_from_sort : (xs : List X) → IsSortedBy lt xs → Ascends lt xs
  ascends_from_sort [] h = tt
  ascends_from_sort (x ∷ []) h = (tt, tt)
  ascends_from_sort (x ∷ y ∷ ys) h = ascends_more x y ys (h 0 x (omega arith) (omega arith)) (ascends_from_sort (y ∷ ys) (adjacent_tail x (y ∷ ys) h))
