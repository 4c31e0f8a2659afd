-- The parts of strings.
use Rattle.std.proofs.Common.{◌≡◌, ℕ, zero, suc, ◌+◌, Bool, true, false, List, [], ◌∷◌, ◌++◌, drop, Option, Some, None, refl, sym, subst, ◌∙◌, arith, add-one, one-add, inl, inr}
use Rattle.std.specs.Prelude.{◌&&◌, ◌==◌, if◌then◌else◌, cond}
use Rattle.std.specs.List.{prefix_len}
use Rattle.std.proofs.lemmas.Bool.{eqb-true}
use Rattle.std.proofs.lemmas.Bool.Decides.{nat_tests}
use Rattle.gql_text_lexer.specs.declared.string.Part.{Part}
use Rattle.gql_text_lexer.specs.declared.string.Part.TheVariants.{Plain, Escape, Unicode, Quotes}
use Rattle.gql_text_lexer.specs.Bytes.{is_escape, is_plain, is_source, quotes_at}
use Rattle.gql_text_lexer.specs.Forms.{is_unicode, part_text, FitsPart, closing, Closes}
use Rattle.gql_text_lexer.specs.Scan.{unicode_at, escape_at, part_at, after_closing, more_of, ends_or, closed}
use Rattle.gql_text_lexer.proofs.Choices.{if_split, if_some, both}

-- ---- a part

pub quotes_stand : (text : List ℕ) → quotes_at 0 text ≡ true → text ≡ 34 ∷ 34 ∷ 34 ∷ drop 3 text
quotes_stand [] e = absurd cc
quotes_stand (a ∷ []) e = absurd (all_three (a == 34) e)
  where
    all_three : (x : Bool) → ((x && false) && false) ≡ true → ⊥
    all_three true e = cc
    all_three false e = cc
quotes_stand (a ∷ b ∷ []) e = absurd (all_three (a == 34 && b == 34) e)
  where
    all_three : (x : Bool) → (x && false) ≡ true → ⊥
    all_three true e = cc
    all_three false e = cc
quotes_stand (a ∷ b ∷ c ∷ text) e =
    let f = both (a == 34 && b == 34) (c == 34) e in
    let g = both (a == 34) (b == 34) f.0 in
    let x : a ≡ 34 = eqb-true a 34 g.0 in
    let y : b ≡ 34 = eqb-true b 34 g.1 in
    let z : c ≡ 34 = eqb-true c 34 f.1 in
    cc

abbrev Stands : Bool → List ℕ → Part → Type 0
Stands block text p = (text ≡ part_text p ++ drop (more_of p + 1) text) × FitsPart block p text

unicode_sound : (rest : List ℕ) (p : Part) → unicode_at rest ≡ Some p → Stands false (92 ∷ 117 ∷ rest) p
unicode_sound [] p e = absurd cc
unicode_sound (a ∷ []) p e = absurd cc
unicode_sound (a ∷ b ∷ []) p e = absurd cc
unicode_sound (a ∷ b ∷ c ∷ []) p e = absurd cc
unicode_sound (a ∷ b ∷ c ∷ d ∷ rest) p e =
    let f = if_some (is_unicode a b c d) (Unicode a b c d) p e in
    subst (λ (q : Part). Stands false (92 ∷ 117 ∷ a ∷ b ∷ c ∷ d ∷ rest) q) f.1 (refl, f.0)

escape_sound : (rest : List ℕ) (p : Part) → escape_at rest ≡ Some p → Stands false (92 ∷ rest) p
escape_sound [] p e = absurd cc
escape_sound (c ∷ rest) p e = elim (if_split (is_escape c) (Some (Escape c)) (if c == 117 then unicode_at rest else None) (Some p) e) [
  | inl w ↦ let same : Escape c ≡ p = cc in subst (λ (q : Part). Stands false (92 ∷ c ∷ rest) q) same (refl, w.0)
  | inr w ↦ elim (if_split (c == 117) (unicode_at rest) None (Some p) w.1) [
    | inl v ↦ subst (λ (x : ℕ). Stands false (92 ∷ x ∷ rest) p) (sym (eqb-true c 117 v.0)) (unicode_sound rest p v.1)
    | inr v ↦ absurd cc
  ]
]

pub part_sound : (block : Bool) (text : List ℕ) (p : Part) → after_closing block text ≡ None → part_at block text ≡ Some p → Stands block text p
part_sound block [] p n e = absurd cc
part_sound false (b ∷ bs) p n e = elim (if_split (b == 92) (escape_at bs) (if is_plain b then Some (Plain b) else None) (Some p) e) [
  | inl w ↦ subst (λ (x : ℕ). Stands false (x ∷ bs) p) (sym (eqb-true b 92 w.0)) (escape_sound bs p w.1)
  | inr w ↦ let f = if_some (is_plain b) (Plain b) p w.1 in subst (λ (q : Part). Stands false (b ∷ bs) q) f.1 (refl, f.0)
]
part_sound true (b ∷ bs) p n e = elim (if_split (b == 92 && quotes_at 0 bs) (Some Quotes) (if is_source b then Some (Plain b) else None) (Some p) e) [
  | inl w ↦
      let f = both (b == 92) (quotes_at 0 bs) w.0 in
      let x : b ≡ 92 = eqb-true b 92 f.0 in
      let y : bs ≡ 34 ∷ 34 ∷ 34 ∷ drop 3 bs = quotes_stand bs f.1 in
      let same : Quotes ≡ p = cc in
      let t : b ∷ bs ≡ 92 ∷ 34 ∷ 34 ∷ 34 ∷ drop 3 bs = cc in
      subst (λ (q : Part). Stands true (b ∷ bs) q) same (t, tt)
  | inr w ↦
      let f = if_some (is_source b) (Plain b) p w.1 in
      subst (λ (q : Part). Stands true (b ∷ bs) q) f.1 (refl, (f.0, open_here (quotes_at 0 (b ∷ bs)) (drop 3 (b ∷ bs)) n, w.0))
]
  where
    open_here : (t : Bool) (r : List ℕ) → (if t then Some r else None) ≡ None → t ≡ false
    open_here true r e = absurd cc
    open_here false r e = refl

plain_tests : (b : ℕ) → is_plain b ≡ true → ((b == 34) ≡ false) × ((b == 92) ≡ false)
plain_tests b h = (grind (arith, nat_tests), grind (arith, nat_tests))

abbrev Found : Bool → List ℕ → Part → List ℕ → Type 0
Found block text p r = (after_closing block text ≡ None) × (part_at block text ≡ Some p) × (drop (more_of p + 1) text ≡ r)

pub part_complete : (block : Bool) (p : Part) (r : List ℕ) → FitsPart block p (part_text p ++ r) → Found block (part_text p ++ r) p r
part_complete false (Plain b) r f = let t = plain_tests b f in let g = rw t.1 at f in (rw t.0 refl, rw t.1 (rw g refl), refl)
part_complete false (Escape c) r f = (refl, rw f refl, refl)
part_complete false (Unicode a b c d) r f = (refl, rw f refl, refl)
part_complete false Quotes r f = absurd f
part_complete true (Plain b) r f = (rw f.1 refl, rw (f.2, f.0) refl, refl)
part_complete true (Escape c) r f = absurd f
part_complete true (Unicode a b c d) r f = absurd f
part_complete true Quotes r f = (refl, refl, refl)

plain_source : (b : ℕ) → is_plain b ≡ true → is_source b ≡ true
plain_source b h = grind (arith, nat_tests)

pub plain_found : (block : Bool) (b : ℕ) (bs : List ℕ) → is_plain b ≡ true → (after_closing block (b ∷ bs) ≡ None) × (part_at block (b ∷ bs) ≡ Some (Plain b))
plain_found false b bs h = let t = plain_tests b h in let g = rw t.1 at h in (rw t.0 refl, rw t.1 (rw g refl))
plain_found true b bs h = let t = plain_tests b h in (rw t.0 refl, rw t.1 (rw (plain_source b h) refl))

-- ---- up to the closing quotes

pub closed_skip : (block : Bool) (bs : List ℕ) (n : ℕ) → closed block bs n ≡ closed block (drop n bs) 0
unfolding closed
closed_skip block bs zero = refl
closed_skip block [] (suc n) = refl
closed_skip block (b ∷ bs) (suc n) = closed_skip block bs n

pub closed_ends : (block : Bool) (text rest : List ℕ) → after_closing block text ≡ Some rest → closed block text 0 ≡ Some rest
unfolding closed
closed_ends true [] rest e = absurd cc
closed_ends false [] rest e = absurd cc
closed_ends block (b ∷ bs) rest e = rw e refl

pub closed_stops : (block : Bool) (text : List ℕ) → after_closing block text ≡ None → part_at block text ≡ None → closed block text 0 ≡ None
unfolding closed
closed_stops block [] e f = refl
closed_stops block (b ∷ bs) e f = rw (e, f) refl

pub closed_part : (block : Bool) (text : List ℕ) (p : Part) → after_closing block text ≡ None → part_at block text ≡ Some p → closed block text 0 ≡ closed block (drop (more_of p + 1) text) 0
unfolding closed
closed_part block [] p e f = absurd cc
closed_part block (b ∷ bs) p e f = rw (e, f, add-one) (closed_skip block bs (more_of p))

-- plain bytes close no string
pub closed_plain : (block : Bool) (text : List ℕ) → closed block (drop (prefix_len is_plain text) text) 0 ≡ closed block text 0
closed_plain block [] = refl
closed_plain block (b ∷ bs) = step (is_plain b) refl (closed_plain block bs)
  where
    step : (t : Bool) → is_plain b ≡ t → closed block (drop (prefix_len is_plain bs) bs) 0 ≡ closed block bs 0
        → closed block (drop (cond t (1 + prefix_len is_plain bs) 0) (b ∷ bs)) 0 ≡ closed block (b ∷ bs) 0
    step false h more = refl
    step true h more =
        let p = plain_found block b bs h in
        rw one-add (more ∙ sym (closed_part block (b ∷ bs) (Plain b) p.0 p.1))

closing_sound : (block : Bool) (text rest : List ℕ) → after_closing block text ≡ Some rest → text ≡ closing block ++ rest
closing_sound false [] rest e = absurd cc
closing_sound false (b ∷ bs) rest e =
    let f = if_some (b == 34) bs rest e in
    let x : b ≡ 34 = eqb-true b 34 f.0 in
    let y : bs ≡ rest = f.1 in
    cc
closing_sound true text rest e =
    let f = if_some (quotes_at 0 text) (drop 3 text) rest e in
    let x : text ≡ 34 ∷ 34 ∷ 34 ∷ drop 3 text = quotes_stand text f.0 in
    let y : drop 3 text ≡ rest = f.1 in
    cc

pub closed_complete : (block : Bool) (ps : List Part) (text rest : List ℕ) → Closes block ps text rest → closed block text 0 ≡ Some rest
closed_complete false [] text rest c = closed_ends false text rest (rw c refl)
closed_complete true [] text rest c = closed_ends true text rest (rw c refl)
closed_complete block (p ∷ ps) text rest (r, e, f, c) =
    let g = part_complete block p r (subst (λ (t : List ℕ). FitsPart block p t) e f) in
    let step = closed_part block (part_text p ++ r) p g.0 g.1 in
    rw e (step ∙ rw g.2 (closed_complete block ps r rest c))

pub closed_sound : (block : Bool) (text rest : List ℕ) (n : ℕ) → closed block text n ≡ Some rest → (ps : List Part) × Closes block ps (drop n text) rest
unfolding closed
closed_sound block [] rest n e = absurd cc
closed_sound block (b ∷ bs) rest (suc n) e = closed_sound block bs rest n e
closed_sound block (b ∷ bs) rest zero e = step (after_closing block (b ∷ bs)) (part_at block (b ∷ bs)) refl refl e (λ (n : ℕ) (h : closed block bs n ≡ Some rest). closed_sound block bs rest n h)
  where
    step : (c : Option (List ℕ)) (q : Option Part) → after_closing block (b ∷ bs) ≡ c → part_at block (b ∷ bs) ≡ q → ends_or c q (closed block bs) ≡ Some rest
        → ((n : ℕ) → closed block bs n ≡ Some rest → (ps : List Part) × Closes block ps (drop n bs) rest) → (ps : List Part) × Closes block ps (b ∷ bs) rest
    step (Some r) q c p e more = ([], closing_sound block (b ∷ bs) rest (c ∙ e))
    step None None c p e more = absurd cc
    step None (Some q) c p e more =
        let m = more (more_of q) e in
        let s = part_sound block (b ∷ bs) q c p in
        let d : drop (more_of q + 1) (b ∷ bs) ≡ drop (more_of q) bs = rw add-one refl in
        (q ∷ m.0, (drop (more_of q) bs, rw d at s.0, s.1, m.1))
