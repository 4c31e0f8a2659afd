-- Texts that are equal, and what holds of one of two.
use Rattle.std.proofs.Common.{rules, ◌⊎◌, inl, inr, ◌≡◌, Bool, true, false, ◌||◌, refl}
use Rattle.std.specs.Str.{bytes_eq}
use Rattle.gql_registry_meta.specs.Parts.{Text}

pub bytes_eq-true : (a b : Text) → bytes_eq a b ≡ true → a ≡ b
bytes_eq-true a b e = search rules

pub bytes_eq-same : (a : Text) → bytes_eq a a ≡ true
bytes_eq-same a = search rules

pub or_true : (a b : Bool) → a || b ≡ true → (a ≡ true) ⊎ (b ≡ true)
or_true true b e = inl refl
or_true false b e = inr e

pub or_left : (a b : Bool) → a ≡ true → a || b ≡ true
or_left true b e = refl
or_left false b e = cc e

pub or_right : (a b : Bool) → b ≡ true → a || b ≡ true
or_right true b e = refl
or_right false b e = e
