-- The decimal text of a number is one token of a whole number, whose value is the number.
use Rattle.std.proofs.Common.{◌≡◌, ℕ, zero, suc, ◌<◌, ◌^◌, ℤ, pos, negsuc, true, false, List, [], ◌∷◌, length, get_or, refl, ap, ◌∙◌, arith, inl, inr}
use Rattle.std.specs.Prelude.{◌==◌}
use Rattle.std.specs.Int.{IsInRange}
use Rattle.std.specs.Fmt.{decimal, signed_decimal}
use Rattle.std.specs.Str.Parse.{AllDigits, digits_value}
use Rattle.std.proofs.lemmas.Bool.Decides.{nat_tests}
use Rattle.std.proofs.lemmas.Fmt.{decimal_is_IsNumeral, decimal_digit, first_decimal}
use Rattle.std.proofs.lemmas.Int.{ints}
use Rattle.std.proofs.lemmas.Str.Parse.{digit_from_value}
use Rattle.gql_text_lexer.specs.Bytes.{within, is_digit, goes_on_number, all_of, ends_before}
use Rattle.gql_text_lexer.specs.Forms.{IsInteger, IsWhole}
use Rattle.gql_text_lexer.specs.Whole.{IsWithin, whole_value}
use Rattle.gql_text_lexer.specs.declared.token.Shape.TheVariants.{Token}
use Rattle.gql_text_lexer.specs.declared.token.TokenKind.TheVariants as kind
use Rattle.gql_text_syntax.specs.Sorts as s
use Rattle.gql_text_syntax.specs.Sorts.{token}
use Rattle.gql_text_syntax.specs.declared.sort.Sort.TheVariants.{WholeNumber}
use Rattle.gql_sdl_readback.proofs.Texts.{Says}

-- ---- digits

digit_test : (b : ℕ) → IsInRange 48 57 b → is_digit b ≡ true
digit_test b r = grind (arith, nat_tests)

first_test : (b : ℕ) → IsInRange 48 57 b → 48 < b → within 49 57 b ≡ true
first_test b r l = grind (arith, nat_tests)

all_digits : (ds : List ℕ) → AllDigits 10 ds → all_of is_digit ds ≡ true
all_digits [] a = refl
all_digits (b ∷ ds) a = rw (digit_test b (digit_from_value b a.0), all_digits ds a.1) refl

no_sign : (b : ℕ) → IsInRange 48 57 b → ((b == 43) ≡ false) × ((b == 45) ≡ false)
no_sign b r = (grind (arith, nat_tests), grind (arith, nat_tests))

-- digits without a sign have their value
unsigned : (ds : List ℕ) → 0 < length ds → AllDigits 10 ds → whole_value ds ≡ pos (digits_value 10 ds)
unsigned [] l a = absurd (omega arith)
unsigned (b ∷ ds) l a = let n = no_sign b (digit_from_value b a.0) in rw (n.1, n.0) refl

-- digits of which the first is no 0
nonzero : (ds : List ℕ) → 0 < length ds → AllDigits 10 ds → 48 < get_or ds 0 0 → IsInteger ds
nonzero [] l a f = absurd (omega arith)
nonzero (b ∷ ds) l a f = inr (first_test b (digit_from_value b a.0) f, all_digits ds a.1)

decimal_integer : (n : ℕ) → n < 2 ^ 64 → IsInteger (decimal n)
decimal_integer zero l = rw (decimal_digit 0 (omega arith)) (inl (refl, refl))
decimal_integer (suc n) l = let i = (decimal_is_IsNumeral (suc n) l).0 in nonzero (decimal (suc n)) i.0 i.1 (first_decimal (suc n) (omega arith) l)

-- ---- signed numbers

decimal_whole : (z : ℤ) → IsWithin z → IsWhole (signed_decimal z)
decimal_whole (pos n) w = record { sign = []; integer = decimal n; parts = refl; is_sign = inl refl; is_integer = decimal_integer n (omega (arith, ints)) }
decimal_whole (negsuc n) w = record { sign = 45 ∷ []; integer = decimal (suc n); parts = refl; is_sign = inr refl; is_integer = decimal_integer (suc n) (omega (arith, ints)) }

decimal_value : (z : ℤ) → IsWithin z → whole_value (signed_decimal z) ≡ z
decimal_value (pos n) w =
    let i = decimal_is_IsNumeral n (omega (arith, ints)) in
    unsigned (decimal n) i.0.0 i.0.1 ∙ ap pos i.1
decimal_value (negsuc n) w = let i = decimal_is_IsNumeral (suc n) (omega (arith, ints)) in rw i.1 refl

within_test : (z : ℤ) → IsWithin z → s.is_within z ≡ true
within_test z w = grind arith

-- the decimal text of a number in range, where nothing follows that goes on a number
pub number_says : (z : ℤ) (rest : List ℕ) → IsWithin z → ends_before goes_on_number rest ≡ true → Says (token WholeNumber) (λ t. whole_value t.text ≡ z) (signed_decimal z) rest
number_says z rest w k = record {
  pieces = record { shape = Token kind.Whole; bytes = signed_decimal z } ∷ [];
  runs = (rest, refl, (decimal_whole z w, k), refl);
  tree = λ at. (record { sort = s.sort_of kind.Whole (signed_decimal z); text = signed_decimal z; at = at }, (rw (decimal_value z w, within_test z w) refl, refl), decimal_value z w);
}
