-- No input object reaches itself exactly where each has a finite value.
use Rattle.std.proofs.Common.{inl, inr, arith, ◌≡◌, ◌↔◌, ◌<◌, IsTrue, ℕ, zero, suc, Bool, true, false, not, ◌&&◌, ◌||◌, List, [], ◌∷◌, refl, ap, ap₂, subst}
use Rattle.std.specs.List.{list_any}
use Rattle.std.specs.Str.{bytes_eq}
use Rattle.gql_registry_meta.specs.Parts.{Text, is_among}
use Rattle.gql_check_rules.specs.Schema.{Schema}
use Rattle.gql_check_rules.specs.InputCycles.{needs, reaches, Reaches, directly, through, FiniteValue, FiniteValues, value, no_value, and_value}
use Rattle.gql_check_rules.proofs.Counting.{Member, IsWithin, count, count-lt}
use Rattle.gql_check_rules.proofs.Reaching.{names, needed, reaches-decides}
use Rattle.gql_check_rules.proofs.Texts.{bytes_eq-true, bytes_eq-same, or_true}

pub reached_over : (s : Schema) (b c a : Text) → Reaches s b a → Reaches s c b → Reaches s c a
reached_over s b c a (directly _ m) way = through a b m way
reached_over s b c a (through _ d m more) way = through a d m (reached_over s b c d more way)

-- a cycle goes through something that is needed
next_cycle : (s : Schema) (b a : Text) → Reaches s b a → Reaches s a b → (c : Text) × (is_among c (needs s a) ≡ true) × Reaches s c c
next_cycle s b a (directly _ m) back = (b, m, reached_over s a b b back (directly a m))
next_cycle s b a (through _ c m more) back = (c, m, reached_over s b c c more (reached_over s a c b back (directly a m)))

mutual
  pub no_cycle : (s : Schema) (a : Text) → FiniteValue s a → Reaches s a a → ⊥
  no_cycle s a (value _ vs) way = let n = next_cycle s a a way way in no_cycles s (needs s a) vs n.0 n.1 n.2

  no_cycles : (s : Schema) (bs : List Text) → FiniteValues s bs → (b : Text) → is_among b bs ≡ true → Reaches s b b → ⊥
  no_cycles s _ no_value b m way = cc m
  no_cycles s _ (and_value c cs v vs) b m way = elim (or_true (bytes_eq b c) (is_among b cs) m) [
    | inl e ↦ no_cycle s c v (subst (λ x. Reaches s x x) (bytes_eq-true b c e) way)
    | inr e ↦ no_cycles s cs vs b e way
  ]

-- a value for each
values : (s : Schema) (bs : List Text) → ((b : Text) → is_among b bs ≡ true → FiniteValue s b) → FiniteValues s bs
values s [] h = no_value
values s (b ∷ bs) h = and_value b bs (h b (own b (is_among b bs))) (values s bs (λ c m. h c (later (bytes_eq c b) (is_among c bs) m)))
  where
    own : (b : Text) (c : Bool) → bytes_eq b b || c ≡ true
    own b c = ap (λ x. x || c) (bytes_eq-same b)

    later : (b c : Bool) → c ≡ true → b || c ≡ true
    later true c e = refl
    later false c e = e

true_of : {P : Type 0} (b : Bool) → (IsTrue b ↔ P) → (P → ⊥) → b ≡ false
true_of true e n = absurd (n (e.0 refl))
true_of false e n = refl

both : (a b : Bool) → a ≡ true → b ≡ false → a && not b ≡ true
both a b p q = ap₂ (λ x y. x && not y) p q

member_any : (p : Text → Bool) (xs : List Text) (x : Text) → Member x xs → p x ≡ true → list_any p xs ≡ true
member_any p [] x m h = absurd m
member_any p (y ∷ ys) x (inl e) h = ap (λ b. b || list_any p ys) (subst (λ z. p z ≡ true) e h)
member_any p (y ∷ ys) x (inr m) h = later (p y) (list_any p ys) (member_any p ys x m h)
  where
    later : (b c : Bool) → c ≡ true → b || c ≡ true
    later true c e = refl
    later false c e = e

module _ (s : Schema) (free : (a : Text) → Reaches s a a → ⊥) where
  -- what something that a needs can reach
  abbrev reached : Text → Text → Bool
  reached a b = reaches s b a

  fewer : (a c : Text) → is_among c (needs s a) ≡ true → IsWithin (reached c) (reached a)
  fewer a c m b e = (reaches-decides s b a).1 (through a c m ((reaches-decides s b c).0 e))

  new : (a c : Text) → is_among c (needs s a) ≡ true → reached a c && not (reached c c) ≡ true
  new a c m = both (reached a c) (reached c c) ((reaches-decides s c a).1 (directly a m)) (true_of (reached c c) (reaches-decides s c c) (free c))

  new_listed : (a c : Text) → is_among c (needs s a) ≡ true → list_any (λ x. reached a x && not (reached c x)) (names s) ≡ true
  new_listed a c m = member_any (λ x. reached a x && not (reached c x)) (names s) c (needed s a c m) (new a c m)

  value_below : (n : ℕ) (a : Text) → count (reached a) (names s) < n → FiniteValue s a
  value_below zero a h = absurd (omega arith)
  value_below (suc n) a h = value a (values s (needs s a) (λ c m. value_below n c (omega (arith, h, count-lt (reached c) (reached a) (names s) (fewer a c m) (new_listed a c m)))))

  pub value_of : (a : Text) → FiniteValue s a
  value_of a = value_below (suc (count (reached a) (names s))) a (omega arith)

pub values-exact : (s : Schema) → ((a : Text) → FiniteValue s a) ↔ ((a : Text) → Reaches s a a → ⊥)
values-exact s = ((λ vs a. no_cycle s a (vs a)), (λ free a. value_of s free a))
