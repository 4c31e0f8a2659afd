-- Texts without a quotation mark, whose bytes are ASCII.
use Rattle.std.proofs.Common.{◌≡◌, ℕ, ◌<◌, Bool, true, false, List, [], ◌∷◌, ◌++◌, refl, sym, ap₂, subst, arith}
use Rattle.std.specs.Prelude.{◌&&◌}
use Rattle.std.specs.List.{AllByRecursion}
use Rattle.std.specs.Str.{IsUtf8}
use Rattle.std.proofs.lemmas.Bool.Decides.{nat_tests}
use Rattle.std.proofs.lemmas.List.Elements.{All-from_recursion}
use Rattle.std.proofs.lemmas.Str.Ascii.{IsAscii-from_all}
use Rattle.std.proofs.lemmas.Str.{IsUtf8-from_ascii}
use Rattle.gql_text_lexer.specs.Bytes.{begins_name, goes_on_name, all_of}
use Rattle.gql_text_lexer.specs.Forms.{IsName}
use Rattle.gql_sdl_readback.proofs.Texts.{is_unquoted}

both : (a b : Bool) → (a && b) ≡ true → (a ≡ true) × (b ≡ true)
both true b e = (refl, e)
both false b e = absurd cc

-- one text, and then another
pub unquoted-append : (a b : List ℕ) → all_of is_unquoted a ≡ true → all_of is_unquoted b ≡ true → all_of is_unquoted (a ++ b) ≡ true
unquoted-append [] b h k = k
unquoted-append (x ∷ a) b h k =
    let p = both (is_unquoted x) (all_of is_unquoted a) h in
    rw (p.0, unquoted-append a b p.1 k) refl

first_unquoted : (b : ℕ) → begins_name b ≡ true → is_unquoted b ≡ true
first_unquoted b h = grind (arith, nat_tests)

next_unquoted : (b : ℕ) → goes_on_name b ≡ true → is_unquoted b ≡ true
next_unquoted b h = grind (arith, nat_tests)

rest_unquoted : (bs : List ℕ) → all_of goes_on_name bs ≡ true → all_of is_unquoted bs ≡ true
rest_unquoted [] h = refl
rest_unquoted (b ∷ bs) h =
    let p = both (goes_on_name b) (all_of goes_on_name bs) h in
    rw (next_unquoted b p.0, rest_unquoted bs p.1) refl

pub name_unquoted : (text : List ℕ) → IsName text → all_of is_unquoted text ≡ true
name_unquoted [] n = absurd n
name_unquoted (b ∷ bs) n = rw (first_unquoted b n.0, rest_unquoted bs n.1) refl

ascii : (b : ℕ) → is_unquoted b ≡ true → b < 128
ascii b h = grind (arith, nat_tests)

all_ascii : (text : List ℕ) → all_of is_unquoted text ≡ true → AllByRecursion (λ b. b < 128) text
all_ascii [] h = tt
all_ascii (b ∷ bs) h = let p = both (is_unquoted b) (all_of is_unquoted bs) h in (ascii b p.0, all_ascii bs p.1)

pub unquoted_utf8 : (text : List ℕ) → all_of is_unquoted text ≡ true → IsUtf8 text
unquoted_utf8 text h = IsUtf8-from_ascii text (IsAscii-from_all text (All-from_recursion (λ b. b < 128) text (all_ascii text h)))

-- ---- the first quotation mark

no_quote : is_unquoted 34 ≡ true → ⊥
no_quote e = cc

-- the texts before the first quotation marks of one text are the same
pub before_quote : (a b x y : List ℕ) → all_of is_unquoted a ≡ true → all_of is_unquoted b ≡ true → a ++ 34 ∷ x ≡ b ++ 34 ∷ y → a ≡ b
before_quote [] [] x y h k e = refl
before_quote [] (c ∷ b) x y h k e =
    let same : 34 ≡ c = cc in
    absurd (no_quote (subst (λ (n : ℕ). is_unquoted n ≡ true) (sym same) (both (is_unquoted c) (all_of is_unquoted b) k).0))
before_quote (c ∷ a) [] x y h k e =
    let same : 34 ≡ c = cc in
    absurd (no_quote (subst (λ (n : ℕ). is_unquoted n ≡ true) (sym same) (both (is_unquoted c) (all_of is_unquoted a) h).0))
before_quote (c ∷ a) (d ∷ b) x y h k e =
    let first : c ≡ d = cc in
    let more : a ++ 34 ∷ x ≡ b ++ 34 ∷ y = cc in
    ap₂ (λ (z : ℕ) (zs : List ℕ). z ∷ zs) first (before_quote a b x y (both (is_unquoted c) (all_of is_unquoted a) h).1 (both (is_unquoted d) (all_of is_unquoted b) k).1 more)
