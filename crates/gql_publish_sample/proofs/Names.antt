-- The names of the types: each is a name, and they differ.
use Rattle.std.proofs.Common.{◌≡◌, ◌≢◌, ℕ, ◌<◌, ◌^◌, true, false, List, [], ◌∷◌, refl, arith}
use Rattle.std.specs.Fmt.{decimal}
use Rattle.std.specs.Int.{IsInRange}
use Rattle.std.specs.Str.{bytes_eq}
use Rattle.std.specs.Str.Parse.{AllDigits}
use Rattle.std.proofs.lemmas.Bool.{false_from_ne_true}
use Rattle.std.proofs.lemmas.Bool.Decides.{nat_tests}
use Rattle.std.proofs.lemmas.Fmt.{decimal_is_IsNumeral, decimal_injective}
use Rattle.std.proofs.lemmas.Str.Parse.{digit_from_value}
use Rattle.gql_check_rules.proofs.Texts.{bytes_eq-true, bytes_eq-same}
use Rattle.gql_text_lexer.specs.Bytes.{goes_on_name, all_of}
use Rattle.gql_text_lexer.specs.Forms.{IsName}
use Rattle.gql_publish_sample.specs.Sample.{name_at}

digit_goes_on : (b : ℕ) → IsInRange 48 57 b → goes_on_name b ≡ true
digit_goes_on b r = grind (arith, nat_tests)

digits_go_on : (ds : List ℕ) → AllDigits 10 ds → all_of goes_on_name ds ≡ true
digits_go_on [] a = refl
digits_go_on (b ∷ ds) a = rw (digit_goes_on b (digit_from_value b a.0), digits_go_on ds a.1) refl

-- it is a name
pub is_name : (i : ℕ) → i < 2 ^ 64 → IsName (name_at i)
is_name i l = (refl, digits_go_on (decimal i) (decimal_is_IsNumeral i l).0.1)

tail_same : (a b : ℕ) (xs ys : List ℕ) → a ∷ xs ≡ b ∷ ys → xs ≡ ys
tail_same a b xs ys e = cc

-- two of them differ
pub names_differ : (i j : ℕ) → i < 2 ^ 64 → j < 2 ^ 64 → i ≢ j → bytes_eq (name_at i) (name_at j) ≡ false
names_differ i j l m d =
    false_from_ne_true (bytes_eq (name_at i) (name_at j)) (λ e. d (decimal_injective i j l m (tail_same 84 84 (decimal i) (decimal j) (bytes_eq-true (name_at i) (name_at j) e))))

pub name_same : (i : ℕ) → bytes_eq (name_at i) (name_at i) ≡ true
name_same i = bytes_eq-same (name_at i)
