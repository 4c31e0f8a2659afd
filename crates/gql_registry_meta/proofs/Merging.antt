-- Ages that are merged.
use Rattle.std.proofs.Common.{arith, ◌≡◌, ℤ, pos, int_lt, if◌then◌else◌, Bool, true, false, refl, ap, sym, ◌∙◌}
use Rattle.std.specs.Ordering.{int_eq}
use Rattle.gql_registry_meta.specs.Caching.{no_store, merged_age}

pub merged_age-commutes : (a b : ℤ) → merged_age a b ≡ merged_age b a
merged_age-commutes a b = grind arith

pub merged_age-same : (a : ℤ) → merged_age a a ≡ a
merged_age-same a = grind arith

pub merged_age-unit : (a : ℤ) → (merged_age (pos 0) a ≡ a) × (merged_age a (pos 0) ≡ a)
merged_age-unit a = grind arith

abbrev Associates : ℤ → ℤ → ℤ → Type 0
Associates a b c = merged_age (merged_age a b) c ≡ merged_age a (merged_age b c)

-- neither -1 nor 0
abbrev IsPlain : ℤ → Type 0
IsPlain a = (int_eq a no_store ≡ false) × (int_eq a (pos 0) ≡ false)

abbrev smaller : ℤ → ℤ → ℤ
smaller a b = if int_lt a b then a else b

smaller-associates : (a b c : ℤ) → smaller (smaller a b) c ≡ smaller a (smaller b c)
smaller-associates a b c = grind arith

merged-smaller : (a b : ℤ) → IsPlain a → IsPlain b → merged_age a b ≡ smaller a b
merged-smaller a b p q = grind arith

plain-smaller : (a b : ℤ) → IsPlain a → IsPlain b → IsPlain (smaller a b)
plain-smaller a b p q = grind arith

plain-all : (a b c : ℤ) → IsPlain a → IsPlain b → IsPlain c → Associates a b c
plain-all a b c p q r =
    ap (λ t. merged_age t c) (merged-smaller a b p q)
    ∙ merged-smaller (smaller a b) c (plain-smaller a b p q) r
    ∙ smaller-associates a b c
    ∙ sym (merged-smaller a (smaller b c) p (plain-smaller b c q r))
    ∙ ap (λ t. merged_age a t) (sym (merged-smaller b c q r))

plain-first : (a b c : ℤ) → IsPlain a → IsPlain b → (zero none : Bool) → int_eq c no_store ≡ none → int_eq c (pos 0) ≡ zero → Associates a b c
plain-first a b c p q true true e f = grind arith
plain-first a b c p q true false e f = grind arith
plain-first a b c p q false true e f = grind arith
plain-first a b c p q false false e f = plain-all a b c p q (e, f)

plain-one : (a b c : ℤ) → IsPlain a → (zero none : Bool) → int_eq b no_store ≡ none → int_eq b (pos 0) ≡ zero → Associates a b c
plain-one a b c p true true e f = grind arith
plain-one a b c p true false e f = grind arith
plain-one a b c p false true e f = grind arith
plain-one a b c p false false e f = plain-first a b c p (e, f) (int_eq c (pos 0)) (int_eq c no_store) refl refl

any : (a b c : ℤ) → (zero none : Bool) → int_eq a no_store ≡ none → int_eq a (pos 0) ≡ zero → Associates a b c
any a b c true true e f = grind arith
any a b c true false e f = grind arith
any a b c false true e f = grind arith
any a b c false false e f = plain-one a b c (e, f) (int_eq b (pos 0)) (int_eq b no_store) refl refl

pub merged_age-associates : (a b c : ℤ) → merged_age (merged_age a b) c ≡ merged_age a (merged_age b c)
merged_age-associates a b c = any a b c (int_eq a (pos 0)) (int_eq a no_store) refl refl
