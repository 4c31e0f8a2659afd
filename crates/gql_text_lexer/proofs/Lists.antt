-- A text has one list of tokens up to a place.
use Rattle.std.proofs.Common.{◌≡◌, ℕ, ◌+◌, ◌-◌, ◌<◌, ◌≤◌, List, [], ◌∷◌, ◌++◌, length, take, drop, refl, sym, ap, subst, ◌∙◌, append_assoc, length-append, length-drop, zero-add, arith}
use Rattle.std.proofs.lemmas.List.{append-nil, take-append-drop, drop-drop}
use Rattle.gql_text_lexer.specs.declared.token.Shape.{Shape}
use Rattle.gql_text_lexer.specs.declared.token.Shape.TheVariants.{Ignored, Token}
use Rattle.gql_text_lexer.specs.Forms.{IsPiece, StartsNoPiece}
use Rattle.gql_text_lexer.specs.Tokens.{Piece, Runs, Lexeme, token_at, tokens_at, HasTokens, AreSlices}
use Rattle.gql_text_lexer.proofs.Pieces.{one_piece, solid, take-append-length, drop-append-length}

pub shorter : (ps : List Piece) (text rest : List ℕ) → Runs ps text rest → length rest ≤ length text
shorter [] text rest r = omega (arith, ap length r)
shorter (p ∷ ps) text rest (after, e, q, r) = omega (arith, shorter ps after rest r, ap length e, length-append p.bytes after)

made : Shape → List ℕ → Piece
made s b = record { shape = s; bytes = b }

piece_same : (p q : Piece) → p.shape ≡ q.shape → p.bytes ≡ q.bytes → p ≡ q
unfolding made
piece_same p q e f = ap (λ (s : Shape). made s p.bytes) e ∙ ap (λ (b : List ℕ). made q.shape b) f

-- up to one place there is one run of pieces
one_run : (ps qs : List Piece) (text x y : List ℕ) → Runs ps text x → Runs qs text y → length x ≡ length y → ps ≡ qs
one_run [] [] text x y r s l = refl
one_run [] (q ∷ qs) text x y r (after, e, p, s) l = absurd (omega (arith, ap length r, ap length e, length-append q.bytes after, solid q.shape q.bytes after p, shorter qs after y s))
one_run (p ∷ ps) [] text x y (after, e, k, r) s l = absurd (omega (arith, ap length s, ap length e, length-append p.bytes after, solid p.shape p.bytes after k, shorter ps after x r))
one_run (p ∷ ps) (q ∷ qs) text x y (a, e, k, r) (b, f, m, s) l =
    let one = one_piece p.shape q.shape p.bytes a q.bytes b k m (sym e ∙ f) in
    let first : p ≡ q = piece_same p q one.0 one.1 in
    let others : ps ≡ qs = one_run ps qs a x y r (subst (λ (t : List ℕ). Runs qs t y) (sym one.2) s) l in
    ap (λ (z : Piece). z ∷ ps) first ∙ ap (λ (zs : List Piece). q ∷ zs) others

pub one_list : (text : List ℕ) (ts us : List Lexeme) (place : ℕ) → HasTokens text ts place → HasTokens text us place → ts ≡ us
one_list text ts us place h k =
    let l : length h.rest ≡ length k.rest = omega (arith, h.up_to, k.up_to) in
    let same : h.pieces ≡ k.pieces = one_run h.pieces k.pieces text h.rest k.rest h.runs k.runs l in
    h.listed ∙ ap (tokens_at 0) same ∙ sym k.listed

-- no run goes beyond a place where no piece stands
no_further : (ps qs : List Piece) (text x y : List ℕ) → Runs ps text x → StartsNoPiece x → Runs qs text y → length x ≤ length y
no_further [] [] text x y r n s = omega (arith, ap length r, ap length s)
no_further [] (q ∷ qs) text x y r n (b, f, m, s) = absurd (n q.shape q.bytes b (sym r ∙ f) m)
no_further (p ∷ ps) [] text x y (a, e, k, r) n s = omega (arith, ap length s, ap length e, length-append p.bytes a, shorter ps a x r)
no_further (p ∷ ps) (q ∷ qs) text x y (a, e, k, r) n (b, f, m, s) =
    let one = one_piece p.shape q.shape p.bytes a q.bytes b k m (sym e ∙ f) in
    no_further ps qs a x y r n (subst (λ (t : List ℕ). Runs qs t y) (sym one.2) s)

-- ---- one more piece

runs_one : (ps : List Piece) (p : Piece) (text rest after : List ℕ) → Runs ps text rest → rest ≡ p.bytes ++ after → IsPiece p.shape p.bytes after → Runs (ps ++ p ∷ []) text after
runs_one [] p text rest after r e q = (after, r ∙ e, q, refl)
runs_one (x ∷ ps) p text rest after (a, f, k, r) e q = (a, f, k, runs_one ps p a rest after r e q)

tokens_one : (at : ℕ) (ps : List Piece) (p : Piece) (text rest : List ℕ) → Runs ps text rest
    → tokens_at at (ps ++ p ∷ []) ≡ tokens_at at ps ++ token_at p.shape p.bytes (at + (length text - length rest))
tokens_one at [] p text rest r =
    let e : at + (length text - length rest) ≡ at = omega (arith, ap length r) in
    rw (e, append-nil (token_at p.shape p.bytes at)) refl
tokens_one at (x ∷ ps) p text rest (a, f, k, r) =
    let le : length rest ≤ length a = shorter ps a rest r in
    let e : (at + length x.bytes) + (length a - length rest) ≡ at + (length text - length rest) = omega (arith, ap length f, length-append x.bytes a) in
    let rec = tokens_one (at + length x.bytes) ps p a rest r in
    let here : List Lexeme = token_at x.shape x.bytes at in
    ap (λ (l : List Lexeme). here ++ l) (rec ∙ ap (λ (n : ℕ). tokens_at (at + length x.bytes) ps ++ token_at p.shape p.bytes n) e) ∙ sym (append_assoc here (tokens_at (at + length x.bytes) ps) (token_at p.shape p.bytes (at + (length text - length rest))))

-- the tokens up to a place
pub record SoFar (text : List ℕ) (toks : List Lexeme) (at : ℕ) : Type 0 where
  pub pieces : List Piece
  pub runs : Runs pieces text (drop at text)
  pub listed : toks ≡ tokens_at 0 pieces
  pub within : at ≤ length text

pub begun : (text : List ℕ) → SoFar text [] 0
begun text = record { pieces = []; runs = refl; listed = refl; within = omega arith }

pub has_tokens : (text : List ℕ) (toks : List Lexeme) (at : ℕ) → SoFar text toks at → HasTokens text toks at
has_tokens text toks at s = record { pieces = s.pieces; rest = drop at text; runs = s.runs; listed = s.listed; up_to = omega (arith, s.within, length-drop at text) }

pub only_these : (text : List ℕ) (toks us : List Lexeme) (at : ℕ) → SoFar text toks at → HasTokens text us at → us ≡ toks
only_these text toks us at s h = one_list text us toks at h (has_tokens text toks at s)

pub farthest : (text : List ℕ) (toks us : List Lexeme) (at place : ℕ) → SoFar text toks at → StartsNoPiece (drop at text) → HasTokens text us place → place ≤ at
farthest text toks us at place s n h = omega (arith, h.up_to, s.within, length-drop at text, no_further s.pieces h.pieces text (drop at text) h.rest s.runs n h.runs)

-- after another piece
pub further : (text : List ℕ) (toks : List Lexeme) (at n : ℕ) (shape : Shape) → SoFar text toks at → n ≤ length (drop at text) → IsPiece shape (take n (drop at text)) (drop n (drop at text))
    → SoFar text (toks ++ token_at shape (take n (drop at text)) at) (at + n)
further text toks at n shape s le k =
    let p : Piece = record { shape = shape; bytes = take n (drop at text) } in
    let here : length text - length (drop at text) ≡ at = omega (arith, s.within, length-drop at text) in
    let rest : drop (at + n) text ≡ drop n (drop at text) = sym (drop-drop n at text) in
    let more = runs_one s.pieces p text (drop at text) (drop n (drop at text)) s.runs (sym (take-append-drop n (drop at text))) k in
    let toks2 = tokens_one 0 s.pieces p text (drop at text) s.runs in
    record {
      pieces = s.pieces ++ p ∷ [];
      runs = rw rest more;
      listed = ap (λ (l : List Lexeme). l ++ token_at shape (take n (drop at text)) at) s.listed ∙ sym (toks2 ∙ ap (λ (m : ℕ). tokens_at 0 s.pieces ++ token_at shape (take n (drop at text)) m) (zero-add _ ∙ here));
      within = omega (arith, s.within, length-drop at text);
    }

pub further_other : (text : List ℕ) (toks : List Lexeme) (at n : ℕ) → SoFar text toks at → n ≤ length (drop at text) → IsPiece Ignored (take n (drop at text)) (drop n (drop at text))
    → SoFar text toks (at + n)
further_other text toks at n s le k = subst (λ (l : List Lexeme). SoFar text l (at + n)) (append-nil toks) (further text toks at n Ignored s le k)

-- ---- places and slices

slices_of : (whole : List ℕ) (ps : List Piece) (text rest : List ℕ) (from at : ℕ) → drop at whole ≡ text → at ≤ length whole → from ≤ at → Runs ps text rest → AreSlices whole from (tokens_at at ps)
slices_of whole [] text rest from at d w l r = tt
slices_of whole (p ∷ ps) text rest from at d w l (a, e, k, r) =
    let n : at + length p.bytes ≤ length whole = omega (arith, ap length d, length-drop at whole, ap length e, length-append p.bytes a) in
    let next : drop (at + length p.bytes) whole ≡ a = sym (drop-drop (length p.bytes) at whole) ∙ rw (d, e) (drop-append-length p.bytes a) in
    let here : take (length p.bytes) (drop at whole) ≡ p.bytes = rw (d, e) (take-append-length p.bytes a) in
    let formed : IsPiece p.shape p.bytes (drop (at + length p.bytes) whole) = rw next k in
    step p.shape formed (solid p.shape p.bytes a k) n here (slices_of whole ps a rest (at + length p.bytes) (at + length p.bytes) next n (omega arith) r) (slices_of whole ps a rest from (at + length p.bytes) next n (omega arith) r)
  where
    step : (s : Shape) → IsPiece s p.bytes (drop (at + length p.bytes) whole) → 0 < length p.bytes → at + length p.bytes ≤ length whole → take (length p.bytes) (drop at whole) ≡ p.bytes
        → AreSlices whole (at + length p.bytes) (tokens_at (at + length p.bytes) ps) → AreSlices whole from (tokens_at (at + length p.bytes) ps) → AreSlices whole from (token_at s p.bytes at ++ tokens_at (at + length p.bytes) ps)
    step Ignored f z n h x y = y
    step (Token c) f z n h x y = (l, z, n, h, f, x)

pub slices : (text : List ℕ) (toks : List Lexeme) (at : ℕ) → SoFar text toks at → AreSlices text 0 toks
slices text toks at s = rw s.listed (slices_of text s.pieces text (drop at text) 0 0 refl (omega arith) (omega arith) s.runs)
