-- Pieces are read as they are defined.
use Rattle.std.proofs.Common.{◌≡◌, ℕ, ◌-◌, ◌<◌, ◌≤◌, Bool, true, false, List, [], ◌∷◌, ◌++◌, length, take, drop, Option, Some, None, refl, sym, ap, subst, ◌∙◌, arith, inl, inr, length-append}
use Rattle.std.specs.Prelude.{◌&&◌, ◌||◌, ◌==◌, ◌⊎◌, if◌then◌else◌, slice_index}
use Rattle.std.proofs.lemmas.Bool.{eqb-true}
use Rattle.std.proofs.lemmas.Bool.Decides.{nat_tests}
use Rattle.std.proofs.lemmas.List.{append_cancel_right}
use Rattle.gql_text_lexer.specs.declared.string.Part.{Part}
use Rattle.gql_text_lexer.specs.declared.string.Part.TheVariants.{Plain, Escape, Unicode, Quotes}
use Rattle.gql_text_lexer.specs.declared.token.TokenKind.{TokenKind}
use Rattle.gql_text_lexer.specs.declared.token.TokenKind.TheVariants as kind
use Rattle.gql_text_lexer.specs.declared.token.Shape.{Shape}
use Rattle.gql_text_lexer.specs.declared.token.Shape.TheVariants.{Ignored, Token}
use Rattle.gql_text_lexer.specs.declared.piece.Class.{Class}
use Rattle.gql_text_lexer.specs.declared.piece.Class.TheVariants as cls
use Rattle.gql_text_lexer.specs.Bytes.{within, begins_name, is_digit, goes_on_name, is_blank, is_punctuator, in_line, is_plain, ends_before}
use Rattle.gql_text_lexer.specs.Forms.{IsInteger, IsWhole, IsPiece, StartsNoPiece, Closes}
use Rattle.gql_text_lexer.specs.Cut.{Cut}
use Rattle.gql_text_lexer.specs.Scan.{after_run, number, closed, of_kind, string, class_of, mark, dots, of_number, piece_of, piece_with, piece}
use Rattle.gql_text_lexer.proofs.Choices.{if_split, if_some, both, not_true, some_same}
use Rattle.gql_text_lexer.proofs.Runs.{after_complete, after_sound}
use Rattle.gql_text_lexer.proofs.Strings.{closed_complete, closed_sound}
use Rattle.gql_text_lexer.proofs.Bodies.{closes_more, closes_cut}
use Rattle.gql_text_lexer.proofs.Numbers.{whole_complete, float_complete, number_sound}

-- ---- the class of a first byte

blank_tests : (b : ℕ) → is_blank b ≡ true → begins_name b ≡ false
blank_tests b h = grind (arith, nat_tests)

blank_class : (b : ℕ) → is_blank b ≡ true → class_of b ≡ Some cls.Blank
blank_class b h = rw (blank_tests b h, h) refl

sign_tests : (b : ℕ) → is_punctuator b ≡ true → (begins_name b ≡ false) × (is_blank b ≡ false)
sign_tests b h = (grind (arith, nat_tests), grind (arith, nat_tests))

sign_class : (b : ℕ) → is_punctuator b ≡ true → class_of b ≡ Some cls.Sign
sign_class b h = rw ((sign_tests b h).0, (sign_tests b h).1, h) refl

abbrev begins_number : ℕ → Bool
begins_number b = is_digit b || b == 45

digit_tests : (b : ℕ) → begins_number b ≡ true → (begins_name b ≡ false) × (is_blank b ≡ false) × (is_punctuator b ≡ false) × ((b == 34) ≡ false) × ((b == 35) ≡ false) × ((b == 46) ≡ false)
digit_tests b h = (grind (arith, nat_tests), grind (arith, nat_tests), grind (arith, nat_tests), grind (arith, nat_tests), grind (arith, nat_tests), grind (arith, nat_tests))

chain : (a b c d e f g h : Bool) → a ≡ false → b ≡ false → c ≡ false → d ≡ false → e ≡ false → f ≡ false → g ≡ true
    → (if a then Some cls.Word else (if b then Some cls.Blank else (if c then Some cls.Sign else (if d then Some cls.Quote else (if e then Some cls.Hash else (if f then Some cls.Dot else (if g then Some cls.Digit else (if h then Some cls.Mark else None)))))))) ≡ Some cls.Digit
chain a b c d e f g h p q r s t u v = rw (p, q, r, s, t, u, v) refl

digit_class : (b : ℕ) → begins_number b ≡ true → class_of b ≡ Some cls.Digit
digit_class b h =
    let t = digit_tests b h in
    chain (begins_name b) (is_blank b) (is_punctuator b) (b == 34) (b == 35) (b == 46) (begins_number b) (b == 239) t.0 t.1 t.2 t.3 t.4 t.5 h

abbrev HasClass : Class → ℕ → Type 0
HasClass cls.Word b = begins_name b ≡ true
HasClass cls.Blank b = is_blank b ≡ true
HasClass cls.Sign b = is_punctuator b ≡ true
HasClass cls.Quote b = b ≡ 34
HasClass cls.Hash b = b ≡ 35
HasClass cls.Dot b = b ≡ 46
HasClass cls.Digit b = Unit {0}
HasClass cls.Mark b = b ≡ 239

class_sound : (b : ℕ) (c : Class) → class_of b ≡ Some c → HasClass c b
class_sound b c e = elim (if_split (begins_name b) _ _ _ e) [
  | inl w ↦ subst (λ (q : Class). HasClass q b) (some_same cls.Word c w.1) w.0
  | inr w ↦ elim (if_split (is_blank b) _ _ _ w.1) [
    | inl w ↦ subst (λ (q : Class). HasClass q b) (some_same cls.Blank c w.1) w.0
    | inr w ↦ elim (if_split (is_punctuator b) _ _ _ w.1) [
      | inl w ↦ subst (λ (q : Class). HasClass q b) (some_same cls.Sign c w.1) w.0
      | inr w ↦ elim (if_split (b == 34) _ _ _ w.1) [
        | inl w ↦ subst (λ (q : Class). HasClass q b) (some_same cls.Quote c w.1) (eqb-true b 34 w.0)
        | inr w ↦ elim (if_split (b == 35) _ _ _ w.1) [
          | inl w ↦ subst (λ (q : Class). HasClass q b) (some_same cls.Hash c w.1) (eqb-true b 35 w.0)
          | inr w ↦ elim (if_split (b == 46) _ _ _ w.1) [
            | inl w ↦ subst (λ (q : Class). HasClass q b) (some_same cls.Dot c w.1) (eqb-true b 46 w.0)
            | inr w ↦ elim (if_split (is_digit b || b == 45) _ _ _ w.1) [
              | inl w ↦ subst (λ (q : Class). HasClass q b) (some_same cls.Digit c w.1) tt
              | inr w ↦ let f = if_some (b == 239) cls.Mark c w.1 in subst (λ (q : Class). HasClass q b) f.1 (eqb-true b 239 f.0)
            ]
          ]
        ]
      ]
    ]
  ]
]

-- ---- every piece is read

abbrev BeginsNumber : List ℕ → Type 0
BeginsNumber [] = ⊥
BeginsNumber (b ∷ t) = begins_number b ≡ true

int_byte : (b : ℕ) → within 49 57 b ≡ true → begins_number b ≡ true
int_byte b h = grind (arith, nat_tests)

whole_begins : (t : List ℕ) → IsWhole t → BeginsNumber t
whole_begins t d = rw d.parts (step d.sign d.integer d.is_sign d.is_integer)
  where
    step : (s i : List ℕ) → ((s ≡ []) ⊎ (s ≡ 45 ∷ [])) → IsInteger i → BeginsNumber (s ++ i)
    step s [] o n = absurd n
    step s (b ∷ i) (inl e) (inl n) = rw (e, n.0) refl
    step s (b ∷ i) (inl e) (inr n) = rw e (int_byte b n.0)
    step s (b ∷ i) (inr e) n = rw e refl

begins_more : (t x : List ℕ) → BeginsNumber t → BeginsNumber (t ++ x)
begins_more [] x b = absurd b
begins_more (c ∷ t) x b = b

number_piece : (text x : List ℕ) (k : TokenKind) → BeginsNumber text → number text ≡ Some (k, x) → piece text ≡ Some (Token k, x)
unfolding piece
number_piece [] x k b e = absurd b
number_piece (c ∷ text) x k b e = rw (digit_class c b, e) refl

not_both : (r : List ℕ) → ends_before (λ b. b == 34) r ≡ true → (slice_index r 0 == 34) ≡ false
not_both [] e = refl
not_both (b ∷ r) e = not_true (b == 34) e

plain_no_quote : (b : ℕ) → is_plain b ≡ true → (b == 34) ≡ false
plain_no_quote b h = grind (arith, nat_tests)

-- the string is no block string
one_quote : (ps : List Part) (body x : List ℕ) → Closes false ps body [] → (34 ∷ body ≡ 34 ∷ 34 ∷ [] → ends_before (λ b. b == 34) x ≡ true)
    → (slice_index (body ++ x) 0 == 34 && slice_index (body ++ x) 1 == 34) ≡ false
one_quote [] body x e n = let f : ends_before (λ b. b == 34) x ≡ true = n (ap (λ (l : List ℕ). 34 ∷ l) e) in rw e (not_both x f)
one_quote (Plain b ∷ ps) body x (r, e, f, c) n = rw (e, plain_no_quote b f) refl
one_quote (Escape b ∷ ps) body x (r, e, f, c) n = rw e refl
one_quote (Unicode a b c d ∷ ps) body x (r, e, f, g) n = rw e refl
one_quote (Quotes ∷ ps) body x (r, e, f, c) n = absurd f

string_read : (block : Bool) (ps : List Part) (body x : List ℕ) → Closes block ps body [] → closed block (body ++ x) 0 ≡ Some x
string_read block ps body x c = closed_complete block ps (body ++ x) x (closes_more block ps body [] x c)

pub piece_complete : (shape : Shape) (t x : List ℕ) → IsPiece shape t x → piece (t ++ x) ≡ Some (shape, x)
unfolding piece string
piece_complete (Token kind.Name) [] x p = absurd p.0
piece_complete (Token kind.Name) (b ∷ t) x p = rw p.0.0 (ap (λ (r : List ℕ). Some (Token kind.Name, r)) (after_complete goes_on_name t x p.0.1 p.1))
piece_complete (Token kind.Punctuator) [] x p = absurd p
piece_complete (Token kind.Punctuator) (b ∷ t) x (inl p) = rw (sign_class b p.0, p.1) refl
piece_complete (Token kind.Punctuator) (b ∷ t) x (inr p) = rw (p.0, p.1) refl
piece_complete (Token kind.Whole) t x p = number_piece (t ++ x) x kind.Whole (begins_more t x (whole_begins t p.0)) (whole_complete t x p.0 p.1)
piece_complete (Token kind.Float) t x p =
    let d = p.0 in
    let b : BeginsNumber t = rw d.parts (begins_more d.whole (d.fraction ++ d.exponent) (whole_begins d.whole d.is_whole)) in
    number_piece (t ++ x) x kind.Float (begins_more t x b) (float_complete t x p.0 p.1)
piece_complete (Token kind.Quoted) t x ((ps, (body, e, c)), n) =
    let m = one_quote ps body x c (subst (λ (l : List ℕ). l ≡ 34 ∷ 34 ∷ [] → ends_before (λ b. b == 34) x ≡ true) e n) in
    rw e (rw (m, string_read false ps body x c) refl)
piece_complete (Token kind.Block) t x (ps, (body, e, c)) = rw e (rw (string_read true ps body x c) refl)
piece_complete Ignored [] x (inl p) = absurd p
piece_complete Ignored (b ∷ t) x (inl p) = rw (blank_class b p.0, p.1) refl
piece_complete Ignored t x (inr (inl p)) = rw p refl
piece_complete Ignored [] x (inr (inr p)) = absurd p.0
piece_complete Ignored (b ∷ t) x (inr (inr p)) = rw p.0.0 (ap (λ (r : List ℕ). Some (Ignored, r)) (after_complete in_line t x p.0.1 p.1))

-- ---- what is read is a piece

abbrev pub Reads : List ℕ → Shape × List ℕ → Type 0
Reads text p = (t : List ℕ) × (text ≡ t ++ p.1) × IsPiece p.0 t p.1

of_kind_some : (k : TokenKind) (o : Option (List ℕ)) (p : Shape × List ℕ) → of_kind k o ≡ Some p → (r : List ℕ) × (o ≡ Some r) × ((Token k, r) ≡ p)
of_kind_some k None p e = absurd cc
of_kind_some k (Some r) p e = (r, refl, some_same (Token k, r) p e)

two_quotes : (bs : List ℕ) → (slice_index bs 0 == 34 && slice_index bs 1 == 34) ≡ true → bs ≡ 34 ∷ 34 ∷ drop 2 bs
two_quotes [] e = absurd cc
two_quotes (a ∷ []) e = absurd (no (a == 34) e)
  where
    no : (x : Bool) → (x && false) ≡ true → ⊥
    no true e = cc
    no false e = cc
two_quotes (a ∷ b ∷ bs) e =
    let f = both (a == 34) (b == 34) e in
    let x : a ≡ 34 = eqb-true a 34 f.0 in
    let y : b ≡ 34 = eqb-true b 34 f.1 in
    cc

empty_ends : (bs body r : List ℕ) → bs ≡ body ++ r → (slice_index bs 0 == 34 && slice_index bs 1 == 34) ≡ false → 34 ∷ body ≡ 34 ∷ 34 ∷ [] → ends_before (λ b. b == 34) r ≡ true
empty_ends bs body r e n q =
    let b : body ≡ 34 ∷ [] = cc in
    let t : bs ≡ 34 ∷ r = cc in
    next r (rw t at n)
  where
    next : (r : List ℕ) → (slice_index r 0 == 34) ≡ false → ends_before (λ b. b == 34) r ≡ true
    next [] e = refl
    next (b ∷ r) e = rw e refl

string_sound : (bs : List ℕ) (p : Shape × List ℕ) → string bs ≡ Some p → Reads (34 ∷ bs) p
unfolding string
string_sound bs p e = elim (if_split (slice_index bs 0 == 34 && slice_index bs 1 == 34) _ _ _ e) [
  | inl w ↦
      let k = of_kind_some kind.Block (closed true (drop 2 bs) 0) p w.1 in
      let c = closed_sound true (drop 2 bs) k.0 0 k.1 in
      let d = closes_cut true c.0 (drop 2 bs) k.0 c.1 in
      let whole : bs ≡ 34 ∷ 34 ∷ (d.0 ++ k.0) = two_quotes bs w.0 ∙ ap (λ (l : List ℕ). 34 ∷ 34 ∷ l) d.1 in
      subst (λ (q : Shape × List ℕ). Reads (34 ∷ bs) q) k.2 (34 ∷ 34 ∷ 34 ∷ d.0, ap (λ (l : List ℕ). 34 ∷ l) whole, (c.0, (d.0, refl, d.2)))
  | inr w ↦
      let k = of_kind_some kind.Quoted (closed false bs 0) p w.1 in
      let c = closed_sound false bs k.0 0 k.1 in
      let d = closes_cut false c.0 bs k.0 c.1 in
      subst (λ (q : Shape × List ℕ). Reads (34 ∷ bs) q) k.2 (34 ∷ d.0, ap (λ (l : List ℕ). 34 ∷ l) d.1, ((c.0, (d.0, refl, d.2)), empty_ends bs d.0 k.0 d.1 w.0))
]

of_number_sound : (text : List ℕ) (o : Option (TokenKind × List ℕ)) (p : Shape × List ℕ) → number text ≡ o → of_number o ≡ Some p → Reads text p
of_number_sound text None p n e = absurd cc
of_number_sound text (Some q) p n e = subst (λ (z : Shape × List ℕ). Reads text z) (some_same (Token q.0, q.1) p e) (number_sound text q.1 q.0 n)

dots_sound : (bs : List ℕ) (p : Shape × List ℕ) → dots bs ≡ Some p → Reads (46 ∷ bs) p
dots_sound [] p e = absurd cc
dots_sound (a ∷ []) p e = absurd cc
dots_sound (a ∷ b ∷ bs) p e =
    let f = if_some (a == 46 && b == 46) (Token kind.Punctuator, bs) p e in
    let g = both (a == 46) (b == 46) f.0 in
    let x : a ≡ 46 = eqb-true a 46 g.0 in
    let y : b ≡ 46 = eqb-true b 46 g.1 in
    let t : 46 ∷ a ∷ b ∷ bs ≡ 46 ∷ 46 ∷ 46 ∷ bs = cc in
    subst (λ (z : Shape × List ℕ). Reads (46 ∷ a ∷ b ∷ bs) z) f.1 (46 ∷ 46 ∷ 46 ∷ [], t, inr (refl, refl))

mark_sound : (bs : List ℕ) (p : Shape × List ℕ) → mark bs ≡ Some p → Reads (239 ∷ bs) p
mark_sound [] p e = absurd cc
mark_sound (a ∷ []) p e = absurd cc
mark_sound (a ∷ b ∷ bs) p e =
    let f = if_some (a == 187 && b == 191) (Ignored, bs) p e in
    let g = both (a == 187) (b == 191) f.0 in
    let x : a ≡ 187 = eqb-true a 187 g.0 in
    let y : b ≡ 191 = eqb-true b 191 g.1 in
    let t : 239 ∷ a ∷ b ∷ bs ≡ 239 ∷ 187 ∷ 191 ∷ bs = cc in
    subst (λ (z : Shape × List ℕ). Reads (239 ∷ a ∷ b ∷ bs) z) f.1 (239 ∷ 187 ∷ 191 ∷ [], t, inr (inl refl))

of_class : (c : Class) (b : ℕ) (bs : List ℕ) (p : Shape × List ℕ) → HasClass c b → piece_of c b bs ≡ Some p → Reads (b ∷ bs) p
of_class cls.Word b bs p h e =
    let r = after_sound goes_on_name bs in
    subst (λ (z : Shape × List ℕ). Reads (b ∷ bs) z) (some_same (Token kind.Name, after_run goes_on_name bs) p e) (b ∷ r.0, ap (λ (l : List ℕ). b ∷ l) r.1, ((h, r.2), r.3))
of_class cls.Blank b bs p h e = subst (λ (z : Shape × List ℕ). Reads (b ∷ bs) z) (some_same (Ignored, bs) p e) (b ∷ [], refl, inl (h, refl))
of_class cls.Sign b bs p h e = subst (λ (z : Shape × List ℕ). Reads (b ∷ bs) z) (some_same (Token kind.Punctuator, bs) p e) (b ∷ [], refl, inl (h, refl))
of_class cls.Quote b bs p h e = subst (λ (x : ℕ). Reads (x ∷ bs) p) (sym h) (string_sound bs p e)
of_class cls.Hash b bs p h e =
    let r = after_sound in_line bs in
    subst (λ (z : Shape × List ℕ). Reads (b ∷ bs) z) (some_same (Ignored, after_run in_line bs) p e) (b ∷ r.0, ap (λ (l : List ℕ). b ∷ l) r.1, inr (inr ((h, r.2), r.3)))
of_class cls.Dot b bs p h e = subst (λ (x : ℕ). Reads (x ∷ bs) p) (sym h) (dots_sound bs p e)
of_class cls.Digit b bs p h e = of_number_sound (b ∷ bs) (number (b ∷ bs)) p refl e
of_class cls.Mark b bs p h e = subst (λ (x : ℕ). Reads (x ∷ bs) p) (sym h) (mark_sound bs p e)

pub piece_sound : (text : List ℕ) (p : Shape × List ℕ) → piece text ≡ Some p → Reads text p
unfolding piece
piece_sound [] p e = absurd cc
piece_sound (b ∷ bs) p e = step (class_of b) refl e
  where
    step : (q : Option Class) → class_of b ≡ q → piece_with q b bs ≡ Some p → Reads (b ∷ bs) p
    step None h e = absurd cc
    step (Some c) h e = of_class c b bs p (class_sound b c h) e

pub piece_none : (text : List ℕ) → piece text ≡ None → StartsNoPiece text
piece_none text e shape t x s p =
    let f : piece (t ++ x) ≡ Some (shape, x) = piece_complete shape t x p in
    let g : piece (t ++ x) ≡ None = subst (λ (l : List ℕ). piece l ≡ None) s e in
    absurd cc

pub solid : (shape : Shape) (t x : List ℕ) → IsPiece shape t x → 0 < length t
solid (Token kind.Name) [] x p = absurd p.0
solid (Token kind.Punctuator) [] x p = absurd p
solid (Token kind.Whole) [] x p = absurd (whole_begins [] p.0)
solid (Token kind.Float) [] x p = absurd (omega (arith, p.0.one, ap length p.0.parts, length-append p.0.whole (p.0.fraction ++ p.0.exponent)))
solid (Token kind.Quoted) [] x ((ps, (body, e, c)), n) = absurd cc
solid (Token kind.Block) [] x (ps, (body, e, c)) = absurd cc
solid Ignored [] x (inl p) = absurd p
solid Ignored [] x (inr (inl p)) = absurd cc
solid Ignored [] x (inr (inr p)) = absurd p.0
solid shape (b ∷ t) x p = omega arith

-- one piece stands at the start
pub one_piece : (s r : Shape) (a x b y : List ℕ) → IsPiece s a x → IsPiece r b y → a ++ x ≡ b ++ y → (s ≡ r) × (a ≡ b) × (x ≡ y)
one_piece s r a x b y p q e =
    let f : piece (a ++ x) ≡ Some (s, x) = piece_complete s a x p in
    let g : piece (b ++ y) ≡ Some (r, y) = piece_complete r b y q in
    let same : (s, x) ≡ (r, y) = some_same (s, x) (r, y) (sym f ∙ ap piece e ∙ g) in
    let after_run : x ≡ y = ap (λ (z : Shape × List ℕ). z.1) same in
    (ap (λ (z : Shape × List ℕ). z.0) same, append_cancel_right a b y (subst (λ (l : List ℕ). a ++ l ≡ b ++ y) after_run e), after_run)

pub piece_within : (text rest : List ℕ) (shape : Shape) → piece text ≡ Some (shape, rest) → length rest ≤ length text
piece_within text rest shape e = let r = piece_sound text (shape, rest) e in omega (arith, ap length r.1, length-append r.0 rest)

pub take-append-length : (a x : List ℕ) → take (length a) (a ++ x) ≡ a
take-append-length [] x = refl
take-append-length (b ∷ a) x = ap (λ (l : List ℕ). b ∷ l) (take-append-length a x)

pub drop-append-length : (a x : List ℕ) → drop (length a) (a ++ x) ≡ x
drop-append-length [] x = refl
drop-append-length (b ∷ a) x = drop-append-length a x

cut_of : (t rest : List ℕ) (shape : Shape) → IsPiece shape t rest → Cut (t ++ rest) shape (length (t ++ rest) - length rest)
cut_of t rest shape k =
    let l : length (t ++ rest) - length rest ≡ length t = omega (arith, length-append t rest) in
    let w : length t ≤ length (t ++ rest) = omega (arith, length-append t rest) in
    rw l (record { some = solid shape t rest k; within = w; is_piece = rw (take-append-length t rest, drop-append-length t rest) k })

pub piece_cut : (text rest : List ℕ) (shape : Shape) → piece text ≡ Some (shape, rest) → Cut text shape (length text - length rest)
piece_cut text rest shape e =
    let r = piece_sound text (shape, rest) e in
    subst (λ (l : List ℕ). Cut l shape (length l - length rest)) (sym r.1) (cut_of r.0 rest shape r.2)
