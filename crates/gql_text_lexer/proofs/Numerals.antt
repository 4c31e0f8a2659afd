-- Whole numbers as numerals.
use Rattle.std.proofs.Common.{◌≡◌, ℕ, ◌<◌, ℤ, pos, negsuc, true, false, List, [], ◌∷◌, ◌++◌, length, refl, arith, inl, inr, FitsSigned}
use Rattle.std.specs.Prelude.{◌==◌, ◌⊎◌}
use Rattle.std.specs.Int.{IsInRange}
use Rattle.std.specs.Str.Parse.{IsNumeral, AllDigits, without_leading_sign}
use Rattle.std.proofs.lemmas.Bool.Decides.{nat_tests}
use Rattle.std.proofs.lemmas.Str.Parse.{tells_digits}
use mir.Syntax.{w128}
use Rattle.std.proofs.lemmas.Int.{ints}
use Rattle.gql_text_lexer.specs.Bytes.{within, is_digit, all_of}
use Rattle.gql_text_lexer.specs.Forms.{IsInteger, IsWhole}
use Rattle.gql_text_lexer.specs.Whole.{IsWithin}
use Rattle.gql_text_lexer.proofs.Choices.{both}

digit_range : (b : ℕ) → is_digit b ≡ true → IsInRange 48 57 b
digit_range b h = (grind (arith, nat_tests), grind (arith, nat_tests))

all_digits : (t : List ℕ) → all_of is_digit t ≡ true → AllDigits 10 t
all_digits [] a = tells_digits.empty
all_digits (b ∷ t) a = let f = both (is_digit b) (all_of is_digit t) a in tells_digits.more b t (digit_range b f.0) (all_digits t f.1)

first_digit : (b : ℕ) → ((b ≡ 48) ⊎ (within 49 57 b ≡ true)) → is_digit b ≡ true
first_digit b (inl h) = grind (arith, nat_tests)
first_digit b (inr h) = grind (arith, nat_tests)

integer_digits : (t : List ℕ) → IsInteger t → (0 < length t) × (all_of is_digit t ≡ true)
integer_digits [] d = absurd d
integer_digits (b ∷ t) (inl d) = (omega arith, rw (first_digit b (inl d.0), d.1) refl)
integer_digits (b ∷ t) (inr d) = (omega arith, rw (first_digit b (inr d.0)) d.1)

no_sign : (b : ℕ) → is_digit b ≡ true → ((b == 43) ≡ false) × ((b == 45) ≡ false)
no_sign b h = (grind (arith, nat_tests), grind (arith, nat_tests))

unsigned : (t : List ℕ) → all_of is_digit t ≡ true → without_leading_sign t ≡ t
unsigned [] a = refl
unsigned (b ∷ t) a = let n = no_sign b (both (is_digit b) (all_of is_digit t) a).0 in rw (n.1, n.0) refl

pub whole_numeral : (t : List ℕ) → IsWhole t → IsNumeral 10 (without_leading_sign t)
whole_numeral t d = rw d.parts (step d.sign d.integer d.is_sign (integer_digits d.integer d.is_integer))
  where
    step : (s i : List ℕ) → ((s ≡ []) ⊎ (s ≡ 45 ∷ [])) → (0 < length i) × (all_of is_digit i ≡ true) → IsNumeral 10 (without_leading_sign (s ++ i))
    step s i (inl e) f = rw (e, unsigned i f.1) (f.0, all_digits i f.1)
    step s i (inr e) f = rw e (f.0, all_digits i f.1)

pub within_fits : (z : ℤ) → IsWithin z → FitsSigned w128 z
within_fits (pos n) w = omega (arith, ints)
within_fits (negsuc n) w = omega (arith, ints)
