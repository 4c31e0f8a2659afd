-- The values of strings.
use Rattle.std.proofs.Common.{◌≡◌, ℕ, zero, suc, ◌+◌, ◌≤◌, Bool, true, false, List, [], ◌∷◌, ◌++◌, length, take, drop, Option, Some, None, ◌↔◌, inl, inr, refl, sym, ap, subst, ◌∙◌, arith, add-one, one-add, append_assoc, length-append}
use Rattle.std.proofs.lemmas.List.{append-nil}
use Rattle.std.specs.Prelude.{◌⊎◌, cond}
use Rattle.std.specs.List.{flat_map, prefix_len}
use Rattle.gql_text_lexer.specs.Bytes.{is_plain}
use Rattle.gql_text_lexer.specs.declared.string.Part.{Part}
use Rattle.gql_text_lexer.specs.declared.string.Part.TheVariants.{Plain, Escape, Unicode, Quotes}
use Rattle.gql_text_lexer.specs.declared.token.TokenKind.TheVariants as kind
use Rattle.gql_text_lexer.specs.declared.token.Shape.{Shape}
use Rattle.gql_text_lexer.specs.declared.token.Shape.TheVariants.{Ignored, Token}
use Rattle.gql_text_lexer.specs.Forms.{part_text, FitsPart, closing, Closes, IsString, IsQuoted, IsBlock, IsPiece}
use Rattle.gql_text_lexer.specs.Lines.{block_value}
use Rattle.gql_text_lexer.specs.Scan.{part_at, after_closing, more_of, piece}
use Rattle.gql_text_lexer.specs.Values.{part_value, parts_of, IsPart, unescaped, HasValue, Quoted, Block, body_at, body_in, body, value_by, value_in, string_value, or_empty, string_text}
use Rattle.gql_text_lexer.proofs.Choices.{some_same}
use Rattle.gql_text_lexer.proofs.Strings.{part_complete, plain_found}
use Rattle.gql_text_lexer.proofs.Pieces.{piece_complete, piece_sound}

parts_skip : (block : Bool) (bs : List ℕ) (n : ℕ) → parts_of block bs n ≡ parts_of block (drop n bs) 0
unfolding parts_of
parts_skip block bs zero = refl
parts_skip block [] (suc n) = refl
parts_skip block (b ∷ bs) (suc n) = parts_skip block bs n

parts_end : (block : Bool) (text rest : List ℕ) → after_closing block text ≡ Some rest → parts_of block text 0 ≡ []
unfolding parts_of
parts_end block [] rest e = refl
parts_end block (b ∷ bs) rest e = rw e refl

parts_stop : (block : Bool) (text : List ℕ) → after_closing block text ≡ None → part_at block text ≡ None → parts_of block text 0 ≡ []
unfolding parts_of
parts_stop block [] e f = refl
parts_stop block (b ∷ bs) e f = rw (e, f) refl

parts_part : (block : Bool) (text : List ℕ) (p : Part) → after_closing block text ≡ None → part_at block text ≡ Some p → parts_of block text 0 ≡ p ∷ parts_of block (drop (more_of p + 1) text) 0
unfolding parts_of
parts_part block [] p e f = absurd cc
parts_part block (b ∷ bs) p e f = rw (e, f, add-one) (ap (λ (l : List Part). p ∷ l) (parts_skip block bs (more_of p)))

pub parts_complete : (block : Bool) (ps : List Part) (text rest : List ℕ) → Closes block ps text rest → parts_of block text 0 ≡ ps
parts_complete false [] text rest c = parts_end false text rest (rw c refl)
parts_complete true [] text rest c = parts_end true text rest (rw c refl)
parts_complete block (p ∷ ps) text rest (r, e, f, c) =
    let g = part_complete block p r (subst (λ (t : List ℕ). FitsPart block p t) e f) in
    let step = parts_part block (part_text p ++ r) p g.0 g.1 in
    rw e (step ∙ rw g.2 (ap (λ (l : List Part). p ∷ l) (parts_complete block ps r rest c)))

plain_part : (block : Bool) (b : ℕ) (bs : List ℕ) → is_plain b ≡ true → unescaped block (b ∷ bs) ≡ b ∷ unescaped block bs
plain_part block b bs h =
    let p = plain_found block b bs h in
    rw (parts_part block (b ∷ bs) (Plain b) p.0 p.1) refl

-- a run of plain bytes is its own value
pub plain_run : (block : Bool) (text : List ℕ) → unescaped block text ≡ take (prefix_len is_plain text) text ++ unescaped block (drop (prefix_len is_plain text) text)
plain_run block [] = refl
plain_run block (b ∷ bs) = step (is_plain b) refl (plain_run block bs)
  where
    step : (t : Bool) → is_plain b ≡ t → unescaped block bs ≡ take (prefix_len is_plain bs) bs ++ unescaped block (drop (prefix_len is_plain bs) bs)
        → unescaped block (b ∷ bs) ≡ take (cond t (1 + prefix_len is_plain bs) 0) (b ∷ bs) ++ unescaped block (drop (cond t (1 + prefix_len is_plain bs) 0) (b ∷ bs))
    step false h more = refl
    step true h more = rw one-add (plain_part block b bs h ∙ ap (λ (l : List ℕ). b ∷ l) more)

pub value_plain : (block : Bool) (text out : List ℕ) (n : ℕ) → n ≡ prefix_len is_plain text → (out ++ take n text) ++ unescaped block (drop n text) ≡ out ++ unescaped block text
value_plain block text out n e = rw e (append_assoc out _ _ ∙ ap (λ (l : List ℕ). out ++ l) (sym (plain_run block text)))

-- ---- the loop

pub value_end : (block : Bool) (text rest out all : List ℕ) → after_closing block text ≡ Some rest → out ++ unescaped block text ≡ all → out ≡ all
value_end block text rest out all e h = let n = rw (parts_end block text rest e) at h in sym (append-nil out) ∙ n

pub value_stop : (block : Bool) (text out all : List ℕ) → after_closing block text ≡ None → part_at block text ≡ None → out ++ unescaped block text ≡ all → out ≡ all
value_stop block text out all e f h = let n = rw (parts_stop block text e f) at h in sym (append-nil out) ∙ n

pub value_part : (block : Bool) (text out all : List ℕ) (p : Part) → after_closing block text ≡ None → part_at block text ≡ Some p → out ++ unescaped block text ≡ all
    → (out ++ part_value p) ++ unescaped block (drop (more_of p + 1) text) ≡ all
value_part block text out all p e f h =
    let n = rw (parts_part block text p e f) at h in
    append_assoc out (part_value p) (unescaped block (drop (more_of p + 1) text)) ∙ n

pub fits_part : (block : Bool) (p : Part) (text : List ℕ) → FitsPart block p text → IsPart p
fits_part block (Plain b) text f = tt
fits_part block (Escape c) text f = tt
fits_part false (Unicode a b c d) text f = f
fits_part true (Unicode a b c d) text f = absurd f
fits_part block Quotes text f = tt

-- ---- the body

quoted_body : (parts : List Part) (text b : List ℕ) → text ≡ closing false ++ b → Closes false parts b [] → body text ≡ Some (false, b)
quoted_body parts text b e c =
    let p : piece (text ++ []) ≡ Some (Token kind.Quoted, []) = piece_complete (Token kind.Quoted) text [] ((parts, (b, e, c)), λ _. refl) in
    let q = rw (append-nil text) at p in
    rw q (rw e refl)

block_body : (parts : List Part) (text b : List ℕ) → text ≡ closing true ++ b → Closes true parts b [] → body text ≡ Some (true, b)
block_body parts text b e c =
    let p : piece (text ++ []) ≡ Some (Token kind.Block, []) = piece_complete (Token kind.Block) text [] (parts, (b, e, c)) in
    let q = rw (append-nil text) at p in
    rw q (rw e refl)

pub string_value_complete : (text value : List ℕ) → HasValue text value → string_value text ≡ Some value
unfolding string_value
string_value_complete text value (Quoted parts (b, e, c) v) =
    rw (quoted_body parts text b e c, parts_complete false parts b [] c) (ap (λ (l : List ℕ). Some l) (sym v))
string_value_complete text value (Block parts (b, e, c) v) =
    rw (block_body parts text b e c, parts_complete true parts b [] c) (ap (λ (l : List ℕ). Some l) (sym v))

-- the parts of a string by its body
pub record Bodied (block : Bool) (text b : List ℕ) : Type 0 where
  pub parts : List Part
  pub whole : text ≡ closing block ++ b
  pub closes : Closes block parts b []

at_shape : (shape : Shape) (rest text : List ℕ) (p : Bool × List ℕ) → piece text ≡ Some (shape, rest) → body_at shape rest text ≡ Some p → Bodied p.0 text p.1
at_shape (Token kind.Quoted) [] text p e f =
    let r = piece_sound text (Token kind.Quoted, []) e in
    quoted r.0 r.1 r.2.0
  where
    quoted : (t : List ℕ) → text ≡ t ++ [] → (parts : List Part) × IsString false parts t → Bodied p.0 text p.1
    quoted t w (parts, (b, u, c)) =
        let all : text ≡ 34 ∷ b = w ∙ append-nil t ∙ u in
        let same : (false, drop 1 text) ≡ p = some_same (false, drop 1 text) p f in
        let made : Bodied false text (drop 1 text) = record { parts = parts; whole = rw all refl; closes = rw all c } in
        subst (λ (q : Bool × List ℕ). Bodied q.0 text q.1) same made
at_shape (Token kind.Block) [] text p e f =
    let r = piece_sound text (Token kind.Block, []) e in
    blocked r.0 r.1 r.2
  where
    blocked : (t : List ℕ) → text ≡ t ++ [] → (parts : List Part) × IsString true parts t → Bodied p.0 text p.1
    blocked t w (parts, (b, u, c)) =
        let all : text ≡ 34 ∷ 34 ∷ 34 ∷ b = w ∙ append-nil t ∙ u in
        let same : (true, drop 3 text) ≡ p = some_same (true, drop 3 text) p f in
        let made : Bodied true text (drop 3 text) = record { parts = parts; whole = rw all refl; closes = rw all c } in
        subst (λ (q : Bool × List ℕ). Bodied q.0 text q.1) same made
at_shape (Token kind.Quoted) (x ∷ rest) text p e f = absurd cc
at_shape (Token kind.Block) (x ∷ rest) text p e f = absurd cc
at_shape (Token kind.Name) rest text p e f = absurd cc
at_shape (Token kind.Punctuator) rest text p e f = absurd cc
at_shape (Token kind.Whole) rest text p e f = absurd cc
at_shape (Token kind.Float) rest text p e f = absurd cc
at_shape Ignored rest text p e f = absurd cc

pub body_sound : (text : List ℕ) (p : Bool × List ℕ) → body text ≡ Some p → Bodied p.0 text p.1
body_sound text p e = step (piece text) refl e
  where
    step : (o : Option (Shape × List ℕ)) → piece text ≡ o → body_in o text ≡ Some p → Bodied p.0 text p.1
    step None o e = absurd cc
    step (Some q) o e = at_shape q.0 q.1 text p o e

has_value : (block : Bool) (text b : List ℕ) → Bodied block text b → HasValue text (value_by block b)
has_value false text b d = Quoted d.parts (b, d.whole, d.closes) (rw (parts_complete false d.parts b [] d.closes) refl)
has_value true text b d = Block d.parts (b, d.whole, d.closes) (rw (parts_complete true d.parts b [] d.closes) refl)

pub string_value_sound : (text value : List ℕ) → string_value text ≡ Some value → HasValue text value
unfolding string_value
string_value_sound text value e = step (body text) refl e
  where
    step : (o : Option (Bool × List ℕ)) → body text ≡ o → value_in o ≡ Some value → HasValue text value
    step None o e = absurd cc
    step (Some p) o e = subst (λ (v : List ℕ). HasValue text v) (some_same (value_by p.0 p.1) value e) (has_value p.0 text p.1 (body_sound text p o))

pub quoted_long : (text : List ℕ) (shape : Shape) (rest : List ℕ) → piece text ≡ Some (shape, rest) → shape ≡ Token kind.Quoted → 1 ≤ length text
quoted_long text shape rest e s =
    let r = piece_sound text (shape, rest) e in
    long r.0 r.1 (subst (λ (z : Shape). IsPiece z r.0 rest) s r.2).0
  where
    long : (t : List ℕ) → text ≡ t ++ rest → (parts : List Part) × IsString false parts t → 1 ≤ length text
    long t w (parts, (b, u, c)) = omega (arith, ap length w, ap length u, length-append t rest)

pub block_long : (text : List ℕ) (shape : Shape) (rest : List ℕ) → piece text ≡ Some (shape, rest) → shape ≡ Token kind.Block → 3 ≤ length text
block_long text shape rest e s =
    let r = piece_sound text (shape, rest) e in
    long r.0 r.1 (subst (λ (z : Shape). IsPiece z r.0 rest) s r.2)
  where
    long : (t : List ℕ) → text ≡ t ++ rest → (parts : List Part) × IsString true parts t → 3 ≤ length text
    long t w (parts, (b, u, c)) = omega (arith, ap length w, ap length u, length-append t rest)

-- ---- what a string token stands for

pub valued : (text : List ℕ) → IsQuoted text ⊎ IsBlock text → (value : List ℕ) × HasValue text value
valued text (inl (parts, is)) = (flat_map part_value parts, Quoted parts is refl)
valued text (inr (parts, is)) = (block_value (flat_map part_value parts), Block parts is refl)

text_found : (text value : List ℕ) → HasValue text value → value ≡ string_text text
text_found text value h = ap or_empty (sym (string_value_complete text value h))

-- a string has a value, and so the one that is computed
pub string_text_exact : (text value : List ℕ) → IsQuoted text ⊎ IsBlock text → HasValue text value ↔ (value ≡ string_text text)
string_text_exact text value q =
    let v = valued text q in
    (text_found text value, λ e. subst (λ (z : List ℕ). HasValue text z) (text_found text v.0 v.1 ∙ sym e) v.1)
