-- A quoted text is one quoted string, whose value is the text.
use Rattle.std.proofs.Common.{◌≡◌, ℕ, ◌+◌, ◌-◌, ◌*◌, ◌<◌, ◌≤◌, Bool, true, false, List, [], ◌∷◌, ◌++◌, length, take, get_or, map, refl, sym, ap, ◌∙◌, arith, inl, inr, append_assoc, add-zero}
use Rattle.std.specs.Prelude.{◌||◌, ◌==◌, ◌⊎◌, if◌then◌else◌, nat_lt}
use Rattle.std.specs.List.{flat_map}
use Rattle.std.specs.Str.{IsUtf8}
use Rattle.std.proofs.lemmas.Bool.{eqb-true}
use Rattle.std.proofs.lemmas.Bool.Decides.{nat_tests}
use Rattle.std.proofs.lemmas.Grind.{flat_map-append}
use Rattle.std.proofs.lemmas.List.{append-nil, take_more}
use Rattle.std.proofs.lemmas.Str.{IsUtf8-append, encode_ascii}
use Rattle.gql_text_lexer.specs.declared.string.Part.{Part}
use Rattle.gql_text_lexer.specs.declared.string.Part.TheVariants.{Plain, Escape, Unicode}
use Rattle.gql_text_lexer.specs.declared.token.TokenKind.TheVariants as kind
use Rattle.gql_text_lexer.specs.declared.token.Shape.TheVariants.{Token}
use Rattle.gql_text_lexer.specs.Bytes.{is_plain, is_escape}
use Rattle.gql_text_lexer.specs.Forms.{hex_value, hex_code, is_hex, is_unicode, part_text, FitsPart, Closes, IsPiece}
use Rattle.gql_text_lexer.specs.Quoting.{hex_digit, control, quoting, quoted_byte, quote}
use Rattle.gql_text_lexer.specs.Tokens.{Piece, IsOneQuoted}
use Rattle.gql_text_lexer.specs.Values.{escaped, part_value, HasValue, Quoted}
use Rattle.gql_text_lexer.proofs.Utf8.{utf8_prefix, utf8_back, utf8_one}

-- what is shown of the part for a byte
record Good (b : ℕ) (p : Part) : Type 0 where
  fits : (text : List ℕ) → FitsPart false p text
  value : part_value p ≡ b ∷ []
  utf8 : (p ≡ Plain b) ⊎ ((b < 128) × IsUtf8 (part_text p))

choose : (b : ℕ) (t : Bool) (x y : Part) → (t ≡ true → Good b x) → (t ≡ false → Good b y) → Good b (if t then x else y)
choose b true x y f g = f refl
choose b false x y f g = g refl

ascii_cons : (b : ℕ) (l : List ℕ) → b < 128 → IsUtf8 l → IsUtf8 (b ∷ l)
ascii_cons b l h u = IsUtf8-append (b ∷ []) l (utf8_one b h) u

two_bytes : (c : ℕ) → c < 128 → IsUtf8 (92 ∷ c ∷ [])
two_bytes c l = ascii_cons 92 (c ∷ []) (omega arith) (utf8_one c l)

letter : (b k c : ℕ) → (b == k) ≡ true → k < 128 → c < 128 → is_escape c ≡ true → escaped c ≡ k → Good b (Escape c)
letter b k c e l m i v =
    let x : b ≡ k = eqb-true b k e in
    record { fits = λ _. i; value = ap (λ (n : ℕ). n ∷ []) (v ∙ sym x); utf8 = inr (omega arith, two_bytes c m) }

itself : (b : ℕ) → (b == 34 || b == 92) ≡ true → (is_escape b ≡ true) × (escaped b ≡ b) × (b < 128)
itself b h = (grind (arith, nat_tests), grind (arith, nat_tests), grind (arith, nat_tests))

digit_value : (n : ℕ) → n < 16 → hex_value (hex_digit n) ≡ n
digit_value n l = grind (arith, nat_tests)

digit_low : (n : ℕ) → n < 16 → hex_digit n < 128
digit_low n l = grind (arith, nat_tests)

below : (n m : ℕ) → n < m → nat_lt n m ≡ true
below n m l = grind (arith, nat_tests)

above : (n m : ℕ) → nat_lt n m ≡ true → n < m
above n m l = grind (arith, nat_tests)

not_above : (n m : ℕ) → nat_lt n m ≡ false → m ≤ n
not_above n m l = grind (arith, nat_tests)

digit_hex : (d : ℕ) → d < 16 → is_hex (hex_digit d) ≡ true
digit_hex d l = below (hex_value (hex_digit d)) 16 (rw (digit_value d l) l)

six_bytes : (k d : ℕ) → k < 128 → d < 128 → IsUtf8 (92 ∷ 117 ∷ 48 ∷ 48 ∷ k ∷ d ∷ [])
six_bytes k d m l = ascii_cons 92 _ (omega arith) (ascii_cons 117 _ (omega arith) (ascii_cons 48 _ (omega arith) (ascii_cons 48 _ (omega arith) (ascii_cons k _ m (utf8_one d l)))))

low_unicode : (k d : ℕ) → is_hex k ≡ true → is_hex d ≡ true → hex_code 48 48 k d < 0xD800 → is_unicode 48 48 k d ≡ true
low_unicode k d m l h = rw (m, l, below (hex_code 48 48 k d) 0xD800 h) refl

written : (b k n d : ℕ) → k < 128 → is_hex k ≡ true → hex_value k * 16 ≡ n → n ≤ 16 → d < 16 → b ≡ n + d → Good b (Unicode 48 48 k (hex_digit d))
written b k n d m h v o l e =
    let c : hex_code 48 48 k (hex_digit d) ≡ b = rw (digit_value d l) (omega (arith, v)) in
    record {
      fits = λ _. low_unicode k (hex_digit d) h (digit_hex d l) (rw c (omega arith));
      value = rw c (encode_ascii b (omega arith));
      utf8 = inr (omega arith, six_bytes k (hex_digit d) m (digit_low d l));
    }

controlled : (b : ℕ) → nat_lt b 32 ≡ true → Good b (control b)
controlled b h = choose b (nat_lt b 16) (Unicode 48 48 48 (hex_digit b)) (Unicode 48 48 49 (hex_digit (b - 16)))
    (λ (t : nat_lt b 16 ≡ true). written b 48 0 b (omega arith) refl refl (omega arith) (above b 16 t) (omega arith))
    (λ (t : nat_lt b 16 ≡ false). written b 49 16 (b - 16) (omega arith) refl refl (omega arith) (omega (arith, above b 32 h)) (omega (arith, not_above b 16 t)))

plain : (b : ℕ) → (b == 34 || b == 92) ≡ false → nat_lt b 32 ≡ false → is_plain b ≡ true
plain b h k = grind (arith, nat_tests)

good : (b : ℕ) → Good b (quoting b)
good b = choose b (b == 34 || b == 92) (Escape b) _
    (λ (t : (b == 34 || b == 92) ≡ true). let i = itself b t in record { fits = λ _. i.0; value = ap (λ (n : ℕ). n ∷ []) i.1; utf8 = inr (i.2, two_bytes b i.2) })
    (λ (t : (b == 34 || b == 92) ≡ false). choose b (b == 8) (Escape 98) _ (λ (e : (b == 8) ≡ true). letter b 8 98 e (omega arith) (omega arith) refl refl)
    (λ (_ : (b == 8) ≡ false). choose b (b == 12) (Escape 102) _ (λ (e : (b == 12) ≡ true). letter b 12 102 e (omega arith) (omega arith) refl refl)
    (λ (_ : (b == 12) ≡ false). choose b (b == 10) (Escape 110) _ (λ (e : (b == 10) ≡ true). letter b 10 110 e (omega arith) (omega arith) refl refl)
    (λ (_ : (b == 10) ≡ false). choose b (b == 13) (Escape 114) _ (λ (e : (b == 13) ≡ true). letter b 13 114 e (omega arith) (omega arith) refl refl)
    (λ (_ : (b == 13) ≡ false). choose b (b == 9) (Escape 116) _ (λ (e : (b == 9) ≡ true). letter b 9 116 e (omega arith) (omega arith) refl refl)
    (λ (_ : (b == 9) ≡ false). choose b (nat_lt b 32) (control b) (Plain b) (λ (e : nat_lt b 32 ≡ true). controlled b e)
    (λ (e : nat_lt b 32 ≡ false). record { fits = λ _. plain b t e; value = refl; utf8 = inl refl })))))))

quote_closes : (text : List ℕ) → Closes false (map quoting text) (flat_map quoted_byte text ++ 34 ∷ []) []
quote_closes [] = refl
quote_closes (b ∷ text) =
    let rest : List ℕ = flat_map quoted_byte text ++ 34 ∷ [] in
    (rest, append_assoc (quoted_byte b) (flat_map quoted_byte text) (34 ∷ []), (good b).fits ((quoted_byte b ++ flat_map quoted_byte text) ++ 34 ∷ []), quote_closes text)

quote_values : (text : List ℕ) → flat_map part_value (map quoting text) ≡ text
quote_values [] = refl
quote_values (b ∷ text) = ap (λ (l : List ℕ). l ++ flat_map part_value (map quoting text)) (good b).value ∙ ap (λ (l : List ℕ). b ∷ l) (quote_values text)

pub quote_value : (text : List ℕ) → HasValue (quote text) text
quote_value text = Quoted (map quoting text) (flat_map quoted_byte text ++ 34 ∷ [], refl, quote_closes text) (sym (quote_values text))

pub quote_token : (text : List ℕ) → IsOneQuoted (quote text)
quote_token text =
    let p : Piece = record { shape = Token kind.Quoted; bytes = quote text } in
    let k : IsPiece (Token kind.Quoted) (quote text) [] = ((map quoting text, (flat_map quoted_byte text ++ 34 ∷ [], refl, quote_closes text)), λ _. refl) in
    record { pieces = p ∷ []; rest = []; runs = ([], sym (append-nil (quote text)), k, refl); listed = refl; up_to = add-zero _ }

quoted_utf8 : (w text : List ℕ) → IsUtf8 (w ++ text) → IsUtf8 (w ++ flat_map quoted_byte text)
quoted_utf8 w [] u = u
quoted_utf8 w (b ∷ text) u = step (quoting b) (good b).utf8 (λ (v : List ℕ). quoted_utf8 v text)
  where
    step : (p : Part) → (p ≡ Plain b) ⊎ ((b < 128) × IsUtf8 (part_text p)) → ((v : List ℕ) → IsUtf8 (v ++ text) → IsUtf8 (v ++ flat_map quoted_byte text)) → IsUtf8 (w ++ (part_text p ++ flat_map quoted_byte text))
    step p (inl e) rec =
        let v : IsUtf8 ((w ++ b ∷ []) ++ text) = rw append_assoc u in
        let r : IsUtf8 (w ++ (b ∷ flat_map quoted_byte text)) = rw append_assoc at (rec (w ++ b ∷ []) v) in
        rw e r
    step p (inr o) rec = IsUtf8-append w (part_text p ++ flat_map quoted_byte text) (utf8_prefix w b text o.0 u) (IsUtf8-append (part_text p) (flat_map quoted_byte text) o.1 (rec [] (utf8_back w b text o.0 u)))

pub quote_utf8 : (text : List ℕ) → IsUtf8 text → IsUtf8 (quote text)
quote_utf8 text u =
    let q : IsUtf8 (34 ∷ []) = utf8_one 34 (omega arith) in
    IsUtf8-append (34 ∷ []) (flat_map quoted_byte text ++ 34 ∷ []) q (IsUtf8-append (flat_map quoted_byte text) (34 ∷ []) (quoted_utf8 [] text u) q)

pub flat_map_more : (f : ℕ → List ℕ) (xs : List ℕ) (i d : ℕ) → i < length xs → flat_map f (take (i + 1) xs) ≡ flat_map f (take i xs) ++ f (get_or xs i d)
flat_map_more f xs i d l = ap (flat_map f) (take_more xs i d l) ∙ flat_map-append f (take i xs) (get_or xs i d ∷ []) ∙ ap (λ (r : List ℕ). flat_map f (take i xs) ++ r) (append-nil (f (get_or xs i d)))
