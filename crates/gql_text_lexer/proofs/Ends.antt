-- A token begins and ends with an ASCII byte.
use Rattle.std.proofs.Common.{◌≡◌, ℕ, zero, suc, ◌+◌, ◌-◌, ◌<◌, ◌≤◌, Bool, true, false, List, [], ◌∷◌, ◌++◌, length, take, drop, get_or, arith, inl, inr, length-take, get_or-take, get_or-drop, add-zero}
use Rattle.std.specs.Prelude.{◌⊎◌}
use Rattle.std.proofs.lemmas.Bool.Decides.{nat_tests}
use Rattle.std.proofs.lemmas.List.{append-nil}
use Rattle.gql_text_lexer.specs.declared.string.Part.{Part}
use Rattle.gql_text_lexer.specs.declared.token.TokenKind.{TokenKind}
use Rattle.gql_text_lexer.specs.declared.token.TokenKind.TheVariants as kind
use Rattle.gql_text_lexer.specs.declared.token.Shape.TheVariants.{Token}
use Rattle.gql_text_lexer.specs.Bytes.{within, begins_name, is_digit, goes_on_name, is_punctuator, all_of}
use Rattle.gql_text_lexer.specs.Forms.{IsDigits, IsInteger, IsWhole, IsFraction, IsExponent, IsPiece, Closes, part_text}
use Rattle.gql_text_lexer.proofs.Choices.{both}

abbrev pub FirstAscii : List ℕ → Type 0
FirstAscii [] = ⊥
FirstAscii (b ∷ t) = b < 128

abbrev pub LastAscii : List ℕ → Type 0
LastAscii [] = ⊥
LastAscii (b ∷ []) = b < 128
LastAscii (b ∷ c ∷ t) = LastAscii (c ∷ t)

last_after : (s t : List ℕ) → LastAscii t → LastAscii (s ++ t)
last_after [] t l = l
last_after (b ∷ []) [] l = absurd l
last_after (b ∷ []) (c ∷ t) l = l
last_after (b ∷ c ∷ s) t l = last_after (c ∷ s) t l

first_before : (s t : List ℕ) → FirstAscii s → FirstAscii (s ++ t)
first_before [] t f = absurd f
first_before (b ∷ s) t f = f

all_last : (p : ℕ → Bool) → ((b : ℕ) → p b ≡ true → b < 128) → (b : ℕ) (t : List ℕ) → b < 128 → all_of p t ≡ true → LastAscii (b ∷ t)
all_last p f b [] l a = l
all_last p f b (c ∷ t) l a = let g = both (p c) (all_of p t) a in all_last p f c t (f c g.0) g.1

name_first : (b : ℕ) → begins_name b ≡ true → b < 128
name_first b h = grind (arith, nat_tests)

name_byte : (b : ℕ) → goes_on_name b ≡ true → b < 128
name_byte b h = grind (arith, nat_tests)

sign_byte : (b : ℕ) → is_punctuator b ≡ true → b < 128
sign_byte b h = grind (arith, nat_tests)

digit_byte : (b : ℕ) → is_digit b ≡ true → b < 128
digit_byte b h = grind (arith, nat_tests)

nonzero_byte : (b : ℕ) → within 49 57 b ≡ true → b < 128
nonzero_byte b h = grind (arith, nat_tests)

low : (b k : ℕ) → b ≡ k → k < 128 → b < 128
low b k e l = omega arith

digits_last : (t : List ℕ) → IsDigits t → LastAscii t
digits_last [] d = absurd d
digits_last (b ∷ t) d = all_last is_digit digit_byte b t (digit_byte b d.0) d.1

integer_ends : (t : List ℕ) → IsInteger t → FirstAscii t × LastAscii t
integer_ends [] d = absurd d
integer_ends (b ∷ t) (inl d) = let l : b < 128 = omega (arith, d.0) in (l, rw d.1 l)
integer_ends (b ∷ t) (inr d) = (nonzero_byte b d.0, all_last is_digit digit_byte b t (nonzero_byte b d.0) d.1)

whole_ends : (t : List ℕ) → IsWhole t → FirstAscii t × LastAscii t
whole_ends t d = rw d.parts (step d.sign d.integer d.is_sign (integer_ends d.integer d.is_integer))
  where
    step : (s i : List ℕ) → ((s ≡ []) ⊎ (s ≡ 45 ∷ [])) → FirstAscii i × LastAscii i → FirstAscii (s ++ i) × LastAscii (s ++ i)
    step s i (inl e) f = rw e f
    step s i (inr e) f = let l : 45 < 128 = omega arith in rw e (l, last_after (45 ∷ []) i f.1)

fraction_last : (t : List ℕ) → IsFraction t → LastAscii t
fraction_last [] d = absurd d
fraction_last (b ∷ t) d = last_after (b ∷ []) t (digits_last t d.1)

exponent_last : (t : List ℕ) → IsExponent t → LastAscii t
exponent_last [] d = absurd d
exponent_last (b ∷ t) d = rw d.1.parts (last_after (b ∷ d.1.sign) d.1.digits (digits_last d.1.digits d.1.is_digits))

tail_last : (f x : List ℕ) → ((f ≡ []) ⊎ IsFraction f) → ((x ≡ []) ⊎ IsExponent x) → 0 < length (f ++ x) → LastAscii (f ++ x)
tail_last f x i (inr j) l = last_after f x (exponent_last x j)
tail_last f [] (inr i) (inl j) l = rw append-nil (fraction_last f i)
tail_last f (b ∷ x) i (inl j) l = absurd cc
tail_last [] [] (inl i) (inl j) l = absurd (omega arith)
tail_last (b ∷ f) [] (inl i) (inl j) l = absurd cc

closes_last : (block : Bool) (ps : List Part) (text : List ℕ) → Closes block ps text [] → LastAscii text
closes_last true [] text e = let l : 34 < 128 = omega arith in rw e l
closes_last false [] text e = let l : 34 < 128 = omega arith in rw e l
closes_last block (p ∷ ps) text (rest, e, f, c) = rw e (last_after (part_text p) rest (closes_last block ps rest c))

ends : (k : TokenKind) (t x : List ℕ) → IsPiece (Token k) t x → FirstAscii t × LastAscii t
ends kind.Name [] x p = absurd p.0
ends kind.Name (b ∷ t) x p = (name_first b p.0.0, all_last goes_on_name name_byte b t (name_first b p.0.0) p.0.1)
ends kind.Punctuator [] x p = absurd p
ends kind.Punctuator (b ∷ t) x (inl p) = (sign_byte b p.0, rw p.1 (sign_byte b p.0))
ends kind.Punctuator (b ∷ t) x (inr p) = let l : 46 < 128 = omega arith in (rw p.0 l, rw p.1 l)
ends kind.Whole t x p = whole_ends t p.0
ends kind.Float t x p =
    let d = p.0 in
    rw d.parts (first_before d.whole (d.fraction ++ d.exponent) (whole_ends d.whole d.is_whole).0, last_after d.whole (d.fraction ++ d.exponent) (tail_last d.fraction d.exponent d.is_fraction d.is_exponent d.one))
ends kind.Quoted t x ((ps, (body, e, c)), n) = let l : 34 < 128 = omega arith in rw e (l, last_after (34 ∷ []) body (closes_last false ps body c))
ends kind.Block t x (ps, (body, e, c)) = let l : 34 < 128 = omega arith in rw e (l, last_after (34 ∷ 34 ∷ 34 ∷ []) body (closes_last true ps body c))

first_at : (t : List ℕ) → FirstAscii t → get_or t 0 0 < 128
first_at [] f = absurd f
first_at (b ∷ t) f = f

last_at : (t : List ℕ) (i : ℕ) → i + 1 ≡ length t → LastAscii t → get_or t i 0 < 128
last_at [] i e l = absurd l
last_at (b ∷ []) zero e l = l
last_at (b ∷ []) (suc i) e l = absurd (omega arith)
last_at (b ∷ c ∷ t) zero e l = absurd (omega arith)
last_at (b ∷ c ∷ t) (suc i) e l = last_at (c ∷ t) i (omega arith) l

-- the first and the last byte of a token that stands in a text
pub ascii_ends : (text : List ℕ) (at n : ℕ) (k : TokenKind) → 0 < n → n ≤ length (drop at text) → IsPiece (Token k) (take n (drop at text)) (drop n (drop at text)) → (get_or text at 0 < 128) × (get_or text (at + n - 1) 0 < 128)
ascii_ends text at n k some le p =
    let f = ends k (take n (drop at text)) (drop n (drop at text)) p in
    let a = first_at (take n (drop at text)) f.0 in
    let m : (n - 1) + 1 ≡ length (take n (drop at text)) = omega (arith, length-take n (drop at text)) in
    let b = last_at (take n (drop at text)) (n - 1) m f.1 in
    let lt : n - 1 < n = omega arith in
    let i : at + (n - 1) ≡ at + n - 1 = omega arith in
    let c = rw (get_or-take n (drop at text) 0 0 some, get_or-drop at text 0 0, add-zero) at a in
    let d = rw (get_or-take n (drop at text) (n - 1) 0 lt, get_or-drop at text (n - 1) 0, i) at b in
    (c, d)
