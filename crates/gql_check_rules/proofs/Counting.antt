-- A step that only adds, over a finite list, adds nothing after as many steps as the list is long.
use Rattle.std.proofs.Common.{◌⊎◌, inl, inr, arith, ◌≡◌, ◌≤◌, ◌<◌, ℕ, zero, suc, Bool, true, false, cond, not, ◌&&◌, ◌||◌, ◌+◌, ◌-◌, List, [], ◌∷◌, length, refl, sym, subst}
use Rattle.std.specs.List.{list_any}
use Rattle.gql_check_rules.specs.Repeated.{repeated}

abbrev pub Member : {X : Type 0} → X → List X → Type 0
Member x [] = ⊥
Member x (y ∷ ys) = (x ≡ y) ⊎ Member x ys

-- what holds of the first holds of the second
abbrev pub IsWithin : {X : Type 0} → (X → Bool) → (X → Bool) → Type 0
IsWithin p q = (x : _) → p x ≡ true → q x ≡ true

abbrev pub count : {X : Type 0} → (X → Bool) → List X → ℕ
count p [] = 0
count p (x ∷ xs) = cond (p x) (suc (count p xs)) (count p xs)

different : false ≡ true → ⊥
different e = cc e

count_step-le : (b c : Bool) (m n : ℕ) → (b ≡ true → c ≡ true) → m ≤ n → cond b (suc m) m ≤ cond c (suc n) n
count_step-le true true m n h l = omega arith
count_step-le true false m n h l = absurd (different (h refl))
count_step-le false true m n h l = omega arith
count_step-le false false m n h l = l

pub count-le : {X : Type 0} (p q : X → Bool) (xs : List X) → IsWithin p q → count p xs ≤ count q xs
count-le p q [] h = omega arith
count-le p q (x ∷ xs) h = count_step-le (p x) (q x) (count p xs) (count q xs) (h x) (count-le p q xs h)

pub count-short : {X : Type 0} (p : X → Bool) (xs : List X) → count p xs ≤ length xs
count-short p [] = omega arith
count-short p (x ∷ xs) = short (p x) (count p xs) (length xs) (count-short p xs)
  where
    short : (b : Bool) (m n : ℕ) → m ≤ n → cond b (suc m) m ≤ suc n
    short true m n h = omega arith
    short false m n h = omega arith

-- one more
count_step-lt : (b c : Bool) (m n : ℕ) → (b ≡ true → c ≡ true) → m ≤ n → (c && not b ≡ true) ⊎ (m < n) → cond b (suc m) m < cond c (suc n) n
count_step-lt true true m n h l (inl e) = absurd cc
count_step-lt true true m n h l (inr k) = omega arith
count_step-lt true false m n h l k = absurd (different (h refl))
count_step-lt false true m n h l k = omega arith
count_step-lt false false m n h l (inl e) = absurd cc
count_step-lt false false m n h l (inr k) = k

first_or : {P : Type 0} (b c : Bool) → b || c ≡ true → (c ≡ true → P) → (b ≡ true) ⊎ P
first_or true c e h = inl refl
first_or false c e h = inr (h e)

pub count-lt : {X : Type 0} (p q : X → Bool) (xs : List X) → IsWithin p q → list_any (λ x. q x && not (p x)) xs ≡ true → count p xs < count q xs
count-lt p q [] h e = cc e
count-lt p q (x ∷ xs) h e = count_step-lt (p x) (q x) (count p xs) (count q xs) (h x) (count-le p q xs h) (first_or (q x && not (p x)) (list_any (λ x. q x && not (p x)) xs) e (count-lt p q xs h))

none_new : (b c : Bool) → c && not b ≡ false → c ≡ true → b ≡ true
none_new true c e h = refl
none_new false true e h = cc e
none_new false false e h = h

or_false_left : (a b : Bool) → a || b ≡ false → a ≡ false
or_false_left true b e = e
or_false_left false b e = refl

or_false_right : (a b : Bool) → a || b ≡ false → b ≡ false
or_false_right true b e = cc e
or_false_right false b e = e

-- nothing new among the listed
pub none_more : {X : Type 0} (p q : X → Bool) (xs : List X) → list_any (λ x. q x && not (p x)) xs ≡ false → (x : X) → Member x xs → q x ≡ true → p x ≡ true
none_more p q [] e x m h = absurd m
none_more p q (y ∷ ys) e x (inl same) h = none_new (p x) (q x) (subst (λ z. q z && not (p z) ≡ false) (sym same) (or_false_left (q y && not (p y)) _ e)) h
none_more p q (y ∷ ys) e x (inr m) h = none_more p q ys (or_false_right (q y && not (p y)) _ e) x m h

module _ {X : Type 0} (through : (X → Bool) → X → Bool) (grows : (p q : X → Bool) → IsWithin p q → IsWithin (through p) (through q)) (xs : List X) (list_of : (p : X → Bool) (x : X) → through p x ≡ true → Member x xs) where
  abbrev at : ℕ → X → Bool
  at n = repeated through n

  -- one step more loses nothing
  repeated-more : (n : ℕ) → IsWithin (at n) (at (suc n))
  repeated-more zero x e = cc e
  repeated-more (suc n) x e = grows (at n) (at (suc n)) (repeated-more n) x e

  repeated-le : (k n : ℕ) → IsWithin (at k) (at (n + k))
  repeated-le k zero x e = let same : k ≡ 0 + k = omega arith in subst (λ m. at m x ≡ true) same e
  repeated-le k (suc n) x e = let same : suc (n + k) ≡ suc n + k = omega arith in subst (λ m. at m x ≡ true) same (repeated-more (n + k) x (repeated-le k n x e))

  -- nothing is added from some place on
  abbrev IsFull : ℕ → Type 0
  IsFull k = IsWithin (at (suc k)) (at k)

  full_after : (k : ℕ) → IsFull k → (n : ℕ) → IsWithin (at n) (at k)
  full_after k full zero x e = cc e
  full_after k full (suc n) x e = full x (grows (at n) (at k) (full_after k full n) x e)

  full_or_more : (k : ℕ) (b : Bool) → list_any (λ x. at (suc k) x && not (at k x)) xs ≡ b → IsFull k ⊎ (count (at k) xs < count (at (suc k)) xs)
  full_or_more k true e = inr (count-lt (at k) (at (suc k)) xs (repeated-more k) e)
  full_or_more k false e = inl (λ x h. none_more (at k) (at (suc k)) xs e x (list_of (at k) x h) h)

  full_by : (n : ℕ) → ((k : ℕ) × (k < n) × IsFull k) ⊎ (n ≤ count (at n) xs)
  full_by zero = inr (omega arith)
  full_by (suc n) = next (full_by n) (full_or_more n (list_any (λ x. at (suc n) x && not (at n x)) xs) refl)
    where
      next : ((k : ℕ) × (k < n) × IsFull k) ⊎ (n ≤ count (at n) xs) → IsFull n ⊎ (count (at n) xs < count (at (suc n)) xs) → ((k : ℕ) × (k < suc n) × IsFull k) ⊎ (suc n ≤ count (at (suc n)) xs)
      next (inl h) g = inl (h.0, omega (arith, h.1), h.2)
      next (inr h) (inl g) = inl (n, omega arith, g)
      next (inr h) (inr g) = inr (omega arith)

  full_early : (k : ℕ) × (k ≤ length xs) × IsFull k
  full_early = early (full_by (suc (length xs)))
    where
      early : ((k : ℕ) × (k < suc (length xs)) × IsFull k) ⊎ (suc (length xs) ≤ count (at (suc (length xs))) xs) → (k : ℕ) × (k ≤ length xs) × IsFull k
      early (inl h) = (h.0, omega (arith, h.1), h.2)
      early (inr h) = absurd (omega (arith, count-short (at (suc (length xs))) xs))

  -- however many steps are taken, what they add is there after as many as the list is long
  pub repeated-full : (n : ℕ) → IsWithin (at n) (at (length xs))
  repeated-full n x e = let same : (length xs - full_early.0) + full_early.0 ≡ length xs = omega (arith, full_early.1) in subst (λ m. at m x ≡ true) same (repeated-le full_early.0 (length xs - full_early.0) x (full_after full_early.0 full_early.2 n x e))
