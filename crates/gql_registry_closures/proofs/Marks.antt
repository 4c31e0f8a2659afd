-- What is marked and what waits, after types are met.
use Rattle.std.proofs.Common.{arith, ◌⊎◌, inl, inr, ◌≡◌, ◌<◌, ◌+◌, ℕ, zero, suc, Bool, true, false, if◌then◌else◌, List, [], ◌∷◌, ◌++◌, length, set, refl, ap, sym, ◌∙◌, subst}
use Rattle.std.proofs.lemmas.Bool.{cases_eq}
use Rattle.std.proofs.lemmas.List.{get_or-set_same, get_or-set_other, length-append, length-set}
use Rattle.std.specs.List.{AllByRecursion}
use Rattle.gql_registry_closures.specs.Walk.{Among, is_marked, with_met, with_all_met, unmarked}

pub among_append : (x : ℕ) (xs ys : List ℕ) → Among x (xs ++ ys) → Among x xs ⊎ Among x ys
among_append x [] ys m = inr m
among_append x (z ∷ zs) ys (inl e) = inl (inl e)
among_append x (z ∷ zs) ys (inr m) = elim (among_append x zs ys m) [ inl k ↦ inl (inr k) | inr k ↦ inr k ]

pub among_left : (x : ℕ) (xs ys : List ℕ) → Among x xs → Among x (xs ++ ys)
among_left x [] ys m = absurd m
among_left x (z ∷ zs) ys (inl e) = inl e
among_left x (z ∷ zs) ys (inr m) = inr (among_left x zs ys m)

pub among_right : (x : ℕ) (xs ys : List ℕ) → Among x ys → Among x (xs ++ ys)
among_right x [] ys m = m
among_right x (z ∷ zs) ys m = inr (among_right x zs ys m)

-- among what was there, or the one at the end
pub among_push : (x b : ℕ) (xs : List ℕ) → Among x (xs ++ b ∷ []) → Among x xs ⊎ (x ≡ b)
among_push x b xs m = elim (among_append x xs (b ∷ []) m) [ inl k ↦ inl k | inr (inl e) ↦ inr e | inr (inr n) ↦ absurd n ]

pub marked_same : (marks : List Bool) (x : ℕ) → x < length marks → is_marked (set marks x true) x ≡ true
marked_same marks x l = get_or-set_same marks x true false l

pub marked_more : (marks : List Bool) (x y : ℕ) → x < length marks → is_marked marks y ≡ true → is_marked (set marks x true) y ≡ true
marked_more marks x y l e = elim (cases_eq y x) [
  | inl q ↦ subst (λ z. is_marked (set marks x true) z ≡ true) (sym q) (marked_same marks x l)
  | inr ne ↦ get_or-set_other marks x y true false ne ∙ e
]

pub marked_was : (marks : List Bool) (x y : ℕ) → is_marked (set marks x true) y ≡ true → (y ≡ x) ⊎ (is_marked marks y ≡ true)
marked_was marks x y e = elim (cases_eq y x) [ inl q ↦ inl q | inr ne ↦ inr (sym (get_or-set_other marks x y true false ne) ∙ e) ]

-- ---- one type is met

module _ (marks : List Bool) (waiting : List ℕ) (x : ℕ) where
  met_again : is_marked marks x ≡ true → with_met (marks, waiting) x ≡ (marks, waiting)
  met_again e = ap (λ b. if b then (marks, waiting) else (set marks x true, waiting ++ x ∷ [])) e

  met_first : is_marked marks x ≡ false → with_met (marks, waiting) x ≡ (set marks x true, waiting ++ x ∷ [])
  met_first e = ap (λ b. if b then (marks, waiting) else (set marks x true, waiting ++ x ∷ [])) e

-- what meeting the types of a list leaves
pub record Meeting (xs : List ℕ) (marks : List Bool) (waiting : List ℕ) (marks' : List Bool) (waiting' : List ℕ) : Type 0 where
  pub keeps : (y : ℕ) → is_marked marks y ≡ true → is_marked marks' y ≡ true
  pub has : (y : ℕ) → Among y xs → is_marked marks' y ≡ true
  pub was : (y : ℕ) → is_marked marks' y ≡ true → (is_marked marks y ≡ true) ⊎ Among y xs
  pub fresh : (y : ℕ) → is_marked marks' y ≡ true → (is_marked marks y ≡ true) ⊎ Among y waiting'
  pub still : (y : ℕ) → Among y waiting → Among y waiting'
  pub waits : (y : ℕ) → Among y waiting' → Among y waiting ⊎ Among y xs
  pub size : length marks' ≡ length marks
  pub works : unmarked marks' + length waiting' ≡ unmarked marks + length waiting

none_met : (marks : List Bool) (waiting : List ℕ) → Meeting [] marks waiting marks waiting
none_met marks waiting = record {
  keeps = λ y e. e;
  has = λ y m. absurd m;
  was = λ y e. inl e;
  fresh = λ y e. inl e;
  still = λ y m. m;
  waits = λ y m. inl m;
  size = refl;
  works = refl;
}

-- first one that was met before
met_known : (x : ℕ) (xs : List ℕ) (marks : List Bool) (waiting : List ℕ) (marks' : List Bool) (waiting' : List ℕ) → is_marked marks x ≡ true → Meeting xs marks waiting marks' waiting' → Meeting (x ∷ xs) marks waiting marks' waiting'
met_known x xs marks waiting marks' waiting' e h = record {
  keeps = h.keeps;
  has = λ y m. elim m [ inl q ↦ h.keeps y (subst (λ z. is_marked marks z ≡ true) (sym q) e) | inr k ↦ h.has y k ];
  was = λ y d. elim (h.was y d) [ inl k ↦ inl k | inr k ↦ inr (inr k) ];
  fresh = h.fresh;
  still = h.still;
  waits = λ y m. elim (h.waits y m) [ inl k ↦ inl k | inr k ↦ inr (inr k) ];
  size = h.size;
  works = h.works;
}

unmarked_less : (marks : List Bool) (x : ℕ) → x < length marks → is_marked marks x ≡ false → unmarked (set marks x true) + 1 ≡ unmarked marks
unmarked_less [] x l e = absurd (omega arith)
unmarked_less (true ∷ marks) zero l e = cc e
unmarked_less (false ∷ marks) zero l e = omega arith
unmarked_less (true ∷ marks) (suc x) l e = unmarked_less marks x (omega arith) e
unmarked_less (false ∷ marks) (suc x) l e = omega (arith, unmarked_less marks x (omega arith) e)

-- first a new one
met_new : (x : ℕ) (xs : List ℕ) (marks : List Bool) (waiting : List ℕ) (marks' : List Bool) (waiting' : List ℕ) → x < length marks → is_marked marks x ≡ false → Meeting xs (set marks x true) (waiting ++ x ∷ []) marks' waiting' → Meeting (x ∷ xs) marks waiting marks' waiting'
met_new x xs marks waiting marks' waiting' l e h = record {
  keeps = λ y d. h.keeps y (marked_more marks x y l d);
  has = λ y m. elim m [ inl q ↦ subst (λ z. is_marked marks' z ≡ true) (sym q) (h.keeps x (marked_same marks x l)) | inr k ↦ h.has y k ];
  was = λ y d. elim (h.was y d) [ inl k ↦ first_was y (marked_was marks x y k) | inr k ↦ inr (inr k) ];
  fresh = λ y d. elim (h.fresh y d) [ inl k ↦ first_fresh y (marked_was marks x y k) | inr k ↦ inr k ];
  still = λ y m. h.still y (among_left y waiting (x ∷ []) m);
  waits = λ y m. elim (h.waits y m) [ inl k ↦ first_waits y (among_push y x waiting k) | inr k ↦ inr (inr k) ];
  size = h.size ∙ length-set marks x true;
  works = omega (arith, h.works, unmarked_less marks x l e, length-append waiting (x ∷ []));
}
  where
    first_was : (y : ℕ) → (y ≡ x) ⊎ (is_marked marks y ≡ true) → (is_marked marks y ≡ true) ⊎ Among y (x ∷ xs)
    first_was y (inl q) = inr (inl q)
    first_was y (inr d) = inl d

    first_fresh : (y : ℕ) → (y ≡ x) ⊎ (is_marked marks y ≡ true) → (is_marked marks y ≡ true) ⊎ Among y waiting'
    first_fresh y (inl q) = inr (h.still y (among_right y waiting (x ∷ []) (inl q)))
    first_fresh y (inr d) = inl d

    first_waits : (y : ℕ) → Among y waiting ⊎ (y ≡ x) → Among y waiting ⊎ Among y (x ∷ xs)
    first_waits y (inl m) = inl m
    first_waits y (inr q) = inr (inl q)

below_more : (n m : ℕ) (xs : List ℕ) → n ≡ m → AllByRecursion (λ x. x < n) xs → AllByRecursion (λ x. x < m) xs
below_more n m xs e h = subst (λ k. AllByRecursion (λ x. x < k) xs) e h

-- all of a list are met
pub all_met : (xs : List ℕ) (marks : List Bool) (waiting : List ℕ) → AllByRecursion (λ x. x < length marks) xs → Meeting xs marks waiting (with_all_met (marks, waiting) xs).0 (with_all_met (marks, waiting) xs).1
all_met [] marks waiting h = none_met marks waiting
all_met (x ∷ xs) marks waiting h = pick (all_met xs) (is_marked marks x) refl
  where
    pick : ((ms : List Bool) (ws : List ℕ) → AllByRecursion (λ y. y < length ms) xs → Meeting xs ms ws (with_all_met (ms, ws) xs).0 (with_all_met (ms, ws) xs).1) → (b : Bool) → is_marked marks x ≡ b → Meeting (x ∷ xs) marks waiting (with_all_met (marks, waiting) (x ∷ xs)).0 (with_all_met (marks, waiting) (x ∷ xs)).1
    pick ih true e = subst (λ s. Meeting (x ∷ xs) marks waiting (with_all_met s xs).0 (with_all_met s xs).1) (sym (met_again marks waiting x e))
        (met_known x xs marks waiting _ _ e (ih marks waiting h.1))
    pick ih false e = subst (λ s. Meeting (x ∷ xs) marks waiting (with_all_met s xs).0 (with_all_met s xs).1) (sym (met_first marks waiting x e))
        (met_new x xs marks waiting _ _ h.0 e (ih (set marks x true) (waiting ++ x ∷ []) (below_more _ _ xs (sym (length-set marks x true)) h.1)))
