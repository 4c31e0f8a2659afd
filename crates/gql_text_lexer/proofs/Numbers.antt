-- Numbers are read as they are defined.
use Rattle.std.proofs.Common.{◌≡◌, ℕ, ◌+◌, ◌<◌, Bool, true, false, List, [], ◌∷◌, ◌++◌, length, Some, refl, sym, ap, subst, ◌∙◌, arith, inl, inr, append_assoc, length-append}
use Rattle.std.specs.Prelude.{◌==◌, ◌⊎◌, if◌then◌else◌, option_and_then}
use Rattle.std.proofs.lemmas.Bool.{eqb-true}
use Rattle.std.proofs.lemmas.Bool.Decides.{nat_tests}
use Rattle.gql_text_lexer.specs.declared.token.TokenKind.{TokenKind}
use Rattle.gql_text_lexer.specs.declared.token.TokenKind.TheVariants as kind
use Rattle.gql_text_lexer.specs.declared.token.Shape.TheVariants.{Token}
use Rattle.gql_text_lexer.specs.Bytes.{within, is_e, is_sign, is_minus, is_digit, goes_on_number, ends_before}
use Rattle.gql_text_lexer.specs.Forms.{IsDigits, IsInteger, IsFraction, IsPower, IsExponent, IsWhole, IsFloat, IsPiece}
use Rattle.gql_text_lexer.specs.Scan.{after_run, after_one, digits, integer, fraction, exponent, number_ends, number_tail, number}
use Rattle.gql_text_lexer.proofs.Choices.{if_split, if_some, not_true, and_then_some, pair_parts}
use Rattle.gql_text_lexer.proofs.Runs.{after_complete, after_sound, ends_less}

-- ---- every form is read

digits_complete : (t x : List ℕ) → IsDigits t → ends_before is_digit x ≡ true → digits (t ++ x) ≡ Some x
digits_complete [] x d e = absurd d
digits_complete (b ∷ t) x d e = rw d.0 (ap (λ (l : List ℕ). Some l) (after_complete is_digit t x d.1 e))

nonzero : (b : ℕ) → within 49 57 b ≡ true → ((b == 48) ≡ false) × (is_digit b ≡ true)
nonzero b h = (grind (arith, nat_tests), grind (arith, nat_tests))

integer_complete : (t x : List ℕ) → IsInteger t → ends_before is_digit x ≡ true → integer (t ++ x) ≡ Some x
integer_complete [] x d e = absurd d
integer_complete (b ∷ t) x (inl d) e = rw (d.0, d.1) refl
integer_complete (b ∷ t) x (inr d) e = let n = nonzero b d.0 in rw n.0 (digits_complete (b ∷ t) x (n.1, d.1) e)

not_minus : (b : ℕ) → ((b ≡ 48) ⊎ (within 49 57 b ≡ true)) → is_minus b ≡ false
not_minus b (inl h) = grind (arith, nat_tests)
not_minus b (inr h) = grind (arith, nat_tests)

minus_complete : (s t x : List ℕ) → ((s ≡ []) ⊎ (s ≡ 45 ∷ [])) → IsInteger t → after_one is_minus (s ++ (t ++ x)) ≡ t ++ x
minus_complete s [] x o d = absurd d
minus_complete s (b ∷ t) x (inl e) (inl d) = rw (e, not_minus b (inl d.0)) refl
minus_complete s (b ∷ t) x (inl e) (inr d) = rw (e, not_minus b (inr d.0)) refl
minus_complete s (b ∷ t) x (inr e) d = rw e refl

fraction_complete : (t x : List ℕ) → IsFraction t → ends_before is_digit x ≡ true → fraction (t ++ x) ≡ Some x
fraction_complete [] x d e = absurd d
fraction_complete (b ∷ t) x d e = rw d.0 (digits_complete t x d.1 e)

fraction_none : (x : List ℕ) → ends_before (λ b. b == 46) x ≡ true → fraction x ≡ Some x
fraction_none [] e = refl
fraction_none (b ∷ x) e = rw (not_true (b == 46) e) refl

digit_no_sign : (b : ℕ) → is_digit b ≡ true → is_sign b ≡ false
digit_no_sign b h = grind (arith, nat_tests)

power_complete : (t x : List ℕ) → IsPower t → ends_before is_digit x ≡ true → digits (after_one is_sign (t ++ x)) ≡ Some x
power_complete t x d e = rw d.parts (step d.sign d.digits d.is_sign d.is_digits)
  where
    step : (s ds : List ℕ) → ((s ≡ []) ⊎ ((b : ℕ) × (s ≡ b ∷ []) × (is_sign b ≡ true))) → IsDigits ds → digits (after_one is_sign ((s ++ ds) ++ x)) ≡ Some x
    step s [] o d = absurd d
    step s (b ∷ ds) (inl n) d = rw (n, digit_no_sign b d.0) (digits_complete (b ∷ ds) x d e)
    step s (b ∷ ds) (inr (c, n, i)) d = rw (n, i) (digits_complete (b ∷ ds) x d e)

exponent_complete : (t x : List ℕ) → IsExponent t → ends_before is_digit x ≡ true → exponent (t ++ x) ≡ Some x
exponent_complete [] x d e = absurd d
exponent_complete (b ∷ t) x d e = rw d.0 (power_complete t x d.1 e)

exponent_none : (x : List ℕ) → ends_before is_e x ≡ true → exponent x ≡ Some x
exponent_none [] e = refl
exponent_none (b ∷ x) e = rw (not_true (is_e b) e) refl

no_digit : (b : ℕ) → goes_on_number b ≡ false → is_digit b ≡ false
no_digit b h = grind (arith, nat_tests)

no_dot : (b : ℕ) → goes_on_number b ≡ false → (b == 46) ≡ false
no_dot b h = grind (arith, nat_tests)

no_e : (b : ℕ) → goes_on_number b ≡ false → is_e b ≡ false
no_e b h = grind (arith, nat_tests)

e_no_digit : (b : ℕ) → is_e b ≡ true → is_digit b ≡ false
e_no_digit b h = grind (arith, nat_tests)

e_no_dot : (b : ℕ) → is_e b ≡ true → (b == 46) ≡ false
e_no_dot b h = grind (arith, nat_tests)

-- an exponent or nothing, and then what ends a number, ends what no `e` goes on
ends_exponent : (p : ℕ → Bool) → ((b : ℕ) → goes_on_number b ≡ false → p b ≡ false) → ((b : ℕ) → is_e b ≡ true → p b ≡ false)
    → (t x : List ℕ) → ((t ≡ []) ⊎ IsExponent t) → ends_before goes_on_number x ≡ true → ends_before p (t ++ x) ≡ true
ends_exponent p f g t x (inl n) e = rw n (ends_less p goes_on_number f x e)
ends_exponent p f g [] x (inr d) e = absurd d
ends_exponent p f g (b ∷ t) x (inr d) e = rw (g b d.0) refl

ends_fraction : (t x : List ℕ) → ((t ≡ []) ⊎ IsFraction t) → ends_before is_digit x ≡ true → ends_before is_digit (t ++ x) ≡ true
ends_fraction t x (inl n) e = rw n e
ends_fraction [] x (inr d) e = absurd d
ends_fraction (b ∷ t) x (inr d) e = rw d.0 refl

same_number : (n : ℕ) → (n == n) ≡ true
same_number n = grind (arith, nat_tests)

less_number : (n m : ℕ) → n < m → (n == m) ≡ false
less_number n m h = grind (arith, nat_tests)

fraction_read : (t x : List ℕ) → ((t ≡ []) ⊎ IsFraction t) → ends_before is_digit x ≡ true → ends_before (λ b. b == 46) x ≡ true → fraction (t ++ x) ≡ Some x
fraction_read t x (inl n) e f = rw n (fraction_none x f)
fraction_read t x (inr d) e f = fraction_complete t x d e

exponent_read : (t x : List ℕ) → ((t ≡ []) ⊎ IsExponent t) → ends_before goes_on_number x ≡ true → exponent (t ++ x) ≡ Some x
exponent_read t x (inl n) e = rw n (exponent_none x (ends_less is_e goes_on_number no_e x e))
exponent_read t x (inr d) e = exponent_complete t x d (ends_less is_digit goes_on_number no_digit x e)

-- what stands after an integer
tail_read : (f t x : List ℕ) → ((f ≡ []) ⊎ IsFraction f) → ((t ≡ []) ⊎ IsExponent t) → ends_before goes_on_number x ≡ true
    → number_tail (f ++ (t ++ x)) ≡ Some ((if length x == length (f ++ (t ++ x)) then kind.Whole else kind.Float), x)
unfolding number_tail
tail_read f t x i j e = rw (fraction_read f (t ++ x) i (ends_exponent is_digit no_digit e_no_digit t x j e) (ends_exponent (λ (b : ℕ). b == 46) no_dot e_no_dot t x j e), exponent_read t x j e, e) refl

whole_read : (w x : List ℕ) → IsWhole w → ends_before is_digit x ≡ true → number (w ++ x) ≡ number_tail x
unfolding number
whole_read w x d e =
    let m = minus_complete d.sign d.integer x d.is_sign d.is_integer in
    let i = integer_complete d.integer x d.is_integer e in
    rw (d.parts, append_assoc, m, i) refl

pub whole_complete : (w x : List ℕ) → IsWhole w → ends_before goes_on_number x ≡ true → number (w ++ x) ≡ Some (kind.Whole, x)
whole_complete w x d e =
    let t = tail_read [] [] x (inl refl) (inl refl) e in
    whole_read w x d (ends_less is_digit goes_on_number no_digit x e) ∙ rw (same_number (length x)) at t

pub float_complete : (t x : List ℕ) → IsFloat t → ends_before goes_on_number x ≡ true → number (t ++ x) ≡ Some (kind.Float, x)
float_complete t x d e =
    let r = tail_read d.fraction d.exponent x d.is_fraction d.is_exponent e in
    let l : length x < length (d.fraction ++ (d.exponent ++ x)) = omega (arith, d.one, length-append d.fraction d.exponent, length-append d.fraction (d.exponent ++ x), length-append d.exponent x) in
    let q = rw (less_number _ _ l) at r in
    let s : t ++ x ≡ d.whole ++ (d.fraction ++ (d.exponent ++ x)) = rw (d.parts, append_assoc, append_assoc) refl in
    rw s (whole_read d.whole (d.fraction ++ (d.exponent ++ x)) d.is_whole (ends_fraction d.fraction (d.exponent ++ x) d.is_fraction (ends_exponent is_digit no_digit e_no_digit d.exponent x d.is_exponent e)) ∙ q)

-- ---- what is read is a form

digits_sound : (text rest : List ℕ) → digits text ≡ Some rest → (t : List ℕ) × (text ≡ t ++ rest) × IsDigits t
digits_sound [] rest e = absurd cc
digits_sound (b ∷ text) rest e =
    let f = if_some (is_digit b) (after_run is_digit text) rest e in
    let r = after_sound is_digit text in
    (b ∷ r.0, ap (λ (l : List ℕ). b ∷ l) (r.1 ∙ ap (λ (l : List ℕ). r.0 ++ l) f.1), (f.0, r.2))

to_nonzero : (b : ℕ) → (b == 48) ≡ false → is_digit b ≡ true → within 49 57 b ≡ true
to_nonzero b h k = grind (arith, nat_tests)

integer_sound : (text rest : List ℕ) → integer text ≡ Some rest → (t : List ℕ) × (text ≡ t ++ rest) × IsInteger t
integer_sound [] rest e = absurd cc
integer_sound (b ∷ text) rest e = elim (if_split (b == 48) (Some text) (digits (b ∷ text)) (Some rest) e) [
  | inl w ↦ let same : text ≡ rest = cc in (b ∷ [], ap (λ (l : List ℕ). b ∷ l) same, inl (eqb-true b 48 w.0, refl))
  | inr w ↦
      let f = if_some (is_digit b) (after_run is_digit text) rest w.1 in
      let r = after_sound is_digit text in
      (b ∷ r.0, ap (λ (l : List ℕ). b ∷ l) (r.1 ∙ ap (λ (l : List ℕ). r.0 ++ l) f.1), inr (to_nonzero b w.0 f.0, r.2))
]

minus_sound : (text : List ℕ) → (s : List ℕ) × (text ≡ s ++ after_one is_minus text) × ((s ≡ []) ⊎ (s ≡ 45 ∷ []))
minus_sound [] = ([], refl, inl refl)
minus_sound (b ∷ text) = step (is_minus b) refl
  where
    step : (t : Bool) → is_minus b ≡ t → (s : List ℕ) × (b ∷ text ≡ s ++ (if t then text else (b ∷ text))) × ((s ≡ []) ⊎ (s ≡ 45 ∷ []))
    step true e = (45 ∷ [], ap (λ (x : ℕ). x ∷ text) (eqb-true b 45 e), inr refl)
    step false e = ([], refl, inl refl)

sign_sound : (text : List ℕ) → (s : List ℕ) × (text ≡ s ++ after_one is_sign text) × ((s ≡ []) ⊎ ((b : ℕ) × (s ≡ b ∷ []) × (is_sign b ≡ true)))
sign_sound [] = ([], refl, inl refl)
sign_sound (b ∷ text) = step (is_sign b) refl
  where
    step : (t : Bool) → is_sign b ≡ t → (s : List ℕ) × (b ∷ text ≡ s ++ (if t then text else (b ∷ text))) × ((s ≡ []) ⊎ ((b : ℕ) × (s ≡ b ∷ []) × (is_sign b ≡ true)))
    step true e = (b ∷ [], refl, inr (b, refl, e))
    step false e = ([], refl, inl refl)

fraction_sound : (text rest : List ℕ) → fraction text ≡ Some rest → (t : List ℕ) × (text ≡ t ++ rest) × ((t ≡ []) ⊎ IsFraction t)
fraction_sound [] rest e = ([], cc, inl refl)
fraction_sound (b ∷ text) rest e = elim (if_split (b == 46) (digits text) (Some (b ∷ text)) (Some rest) e) [
  | inl w ↦ let d = digits_sound text rest w.1 in (b ∷ d.0, ap (λ (l : List ℕ). b ∷ l) d.1, inr (eqb-true b 46 w.0, d.2))
  | inr w ↦ ([], cc, inl refl)
]

exponent_sound : (text rest : List ℕ) → exponent text ≡ Some rest → (t : List ℕ) × (text ≡ t ++ rest) × ((t ≡ []) ⊎ IsExponent t)
exponent_sound [] rest e = ([], cc, inl refl)
exponent_sound (b ∷ text) rest e = elim (if_split (is_e b) (digits (after_one is_sign text)) (Some (b ∷ text)) (Some rest) e) [
  | inl w ↦
      let s = sign_sound text in
      let d = digits_sound (after_one is_sign text) rest w.1 in
      let whole : text ≡ (s.0 ++ d.0) ++ rest = s.1 ∙ ap (λ (l : List ℕ). s.0 ++ l) d.1 ∙ sym (append_assoc s.0 d.0 rest) in
      (b ∷ (s.0 ++ d.0), ap (λ (l : List ℕ). b ∷ l) whole, inr (w.0, record { sign = s.0; digits = d.0; parts = refl; is_sign = s.2; is_digits = d.2 }))
  | inr w ↦ ([], cc, inl refl)
]

abbrev Read : TokenKind → List ℕ → List ℕ → Type 0
Read k text rest = (t : List ℕ) × (text ≡ t ++ rest) × IsPiece (Token k) t rest

no_bytes : (f t : List ℕ) → length (f ++ t) ≡ 0 → (f ≡ []) × (t ≡ [])
no_bytes [] [] l = (refl, refl)
no_bytes [] (b ∷ t) l = absurd (omega arith)
no_bytes (b ∷ f) t l = absurd (omega arith)

pub number_sound : (text rest : List ℕ) (k : TokenKind) → number text ≡ Some (k, rest) → Read k text rest
unfolding number number_tail
number_sound text rest k e =
    let a = and_then_some number_tail (integer (after_one is_minus text)) (k, rest) e in
    let b = and_then_some (number_ends a.0) (option_and_then exponent (fraction a.0)) (k, rest) a.2 in
    let c = and_then_some exponent (fraction a.0) b.0 b.1 in
    let s = minus_sound text in
    let i = integer_sound (after_one is_minus text) a.0 a.1 in
    let f = fraction_sound a.0 c.0 c.1 in
    let x = exponent_sound c.0 b.0 c.2 in
    let n = if_some (ends_before goes_on_number b.0) ((if length b.0 == length a.0 then kind.Whole else kind.Float), b.0) (k, rest) b.2 in
    let parts = pair_parts _ (k, rest) n.1 in
    let at : b.0 ≡ rest = parts.1 in
    let tail : a.0 ≡ f.0 ++ (x.0 ++ rest) = f.1 ∙ ap (λ (l : List ℕ). f.0 ++ l) (x.1 ∙ ap (λ (l : List ℕ). x.0 ++ l) at) in
    let whole : IsWhole (s.0 ++ i.0) = record { sign = s.0; integer = i.0; parts = refl; is_sign = s.2; is_integer = i.2 } in
    let all : text ≡ (s.0 ++ i.0) ++ a.0 = s.1 ∙ ap (λ (l : List ℕ). s.0 ++ l) i.1 ∙ sym (append_assoc s.0 i.0 a.0) in
    let ends : ends_before goes_on_number rest ≡ true = subst (λ (l : List ℕ). ends_before goes_on_number l ≡ true) at n.0 in
    let told : (if length b.0 == length a.0 then kind.Whole else kind.Float) ≡ k = parts.0 in
    step (s.0 ++ i.0) f.0 x.0 a.0 whole f.2 x.2 tail all ends (length b.0 == length a.0) (ap (λ (l : List ℕ). length l == length a.0) (sym at)) told
  where
    step : (w f x a : List ℕ) → IsWhole w → ((f ≡ []) ⊎ IsFraction f) → ((x ≡ []) ⊎ IsExponent x) → a ≡ f ++ (x ++ rest) → text ≡ w ++ a → ends_before goes_on_number rest ≡ true
        → (t : Bool) → (length rest == length a) ≡ t → (if t then kind.Whole else kind.Float) ≡ k → Read k text rest
    step w f x a d i j tail all ends true l told =
        let m : length rest ≡ length a = eqb-true (length rest) (length a) l in
        let z = no_bytes f x (omega (arith, ap length tail, length-append f (x ++ rest), length-append x rest, length-append f x)) in
        let same : a ≡ rest = rw (z.0, z.1) at tail in
        subst (λ (q : TokenKind). Read q text rest) told (w, all ∙ ap (λ (l : List ℕ). w ++ l) same, (d, ends))
    step w f x a d i j tail all ends false l told =
        let one : 0 < length (f ++ x) = longer (length (f ++ x)) (length rest) (length a) l (omega (arith, ap length tail, length-append f (x ++ rest), length-append x rest, length-append f x)) in
        let cut : text ≡ (w ++ (f ++ x)) ++ rest = all ∙ ap (λ (l : List ℕ). w ++ l) (tail ∙ sym (append_assoc f x rest)) ∙ sym (append_assoc w (f ++ x) rest) in
        subst (λ (q : TokenKind). Read q text rest) told (w ++ (f ++ x), cut, (record { whole = w; fraction = f; exponent = x; parts = refl; is_whole = d; is_fraction = i; is_exponent = j; one = one }, ends))
      where
        longer : (n r a : ℕ) → (r == a) ≡ false → a ≡ n + r → 0 < n
        longer n r a h e = grind (arith, nat_tests)
