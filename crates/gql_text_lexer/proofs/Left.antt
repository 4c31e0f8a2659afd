-- The tokens that are cut one by one are the tokens of the text.
use Rattle.std.proofs.Common.{◌≡◌, ℕ, zero, suc, ◌+◌, ◌-◌, ◌<◌, ◌≤◌, List, [], ◌∷◌, ◌++◌, length, take, drop, Option, Some, None, refl, ap, ◌∙◌, arith, length-append, length-drop}
use Rattle.std.proofs.lemmas.List.{drop-drop}
use Rattle.gql_text_lexer.specs.declared.token.Shape.{Shape}
use Rattle.gql_text_lexer.specs.Forms.{StartsNoPiece}
use Rattle.gql_text_lexer.specs.Scan.{piece}
use Rattle.gql_text_lexer.specs.Tokens.{Piece, Runs, Lexeme, token_at, tokens_at, HasTokens}
use Rattle.gql_text_lexer.specs.Left.{Left, after_piece, left_step, left_from, left_at}
use Rattle.gql_text_lexer.proofs.Pieces.{piece_sound, piece_none, solid, take-append-length, drop-append-length}

pub shorter_after : (t : List ℕ) (p : Shape × List ℕ) → piece t ≡ Some p → length p.1 < length t
shorter_after t p e =
    let r = piece_sound t p e in
    omega (arith, ap length r.1, length-append r.0 p.1, solid p.0 r.0 p.1 r.2)

same : (n m at : ℕ) (t : List ℕ) (o : Option (Shape × List ℕ)) → piece t ≡ o → ((at : ℕ) (r : List ℕ) → length r < length t → left_from n at r ≡ left_from m at r)
    → left_step o at t (left_from n) ≡ left_step o at t (left_from m)
same n m at t None e rec = refl
same n m at t (Some p) e rec = ap (λ (l : Left). after_piece p.0 (take (length t - length p.1) t) at l) (rec (at + (length t - length p.1)) p.1 (shorter_after t p e))

-- any number that is large enough gives the same
pub enough : (n m at : ℕ) (t : List ℕ) → length t ≤ n → length t ≤ m → left_from n at t ≡ left_from m at t
unfolding left_from piece
enough zero zero at t a b = refl
enough zero (suc m) at [] a b = refl
enough zero (suc m) at (x ∷ t) a b = absurd (omega arith)
enough (suc n) zero at [] a b = refl
enough (suc n) zero at (x ∷ t) a b = absurd (omega arith)
enough (suc n) (suc m) at t a b = same n m at t (piece t) refl (λ at r lt. enough n m at r (omega arith) (omega arith))

step_from : (n at : ℕ) (t rest : List ℕ) (shape : Shape) → length t ≤ n → piece t ≡ Some (shape, rest)
    → left_from n at t ≡ after_piece shape (take (length t - length rest) t) at (left_from n (at + (length t - length rest)) rest)
unfolding left_from
step_from zero at t rest shape le e = absurd (omega (arith, shorter_after t (shape, rest) e))
step_from (suc n) at t rest shape le e =
    rw e (ap (λ (l : Left). after_piece shape (take (length t - length rest) t) at l) (enough n (suc n) (at + (length t - length rest)) rest (omega (arith, shorter_after t (shape, rest) e)) (omega (arith, shorter_after t (shape, rest) e))))

-- a piece at this place, and what is left after it
pub left_piece : (text : List ℕ) (at n : ℕ) (shape : Shape) → at ≤ length text → n ≤ length (drop at text) → piece (drop at text) ≡ Some (shape, drop n (drop at text))
    → left_at text at ≡ after_piece shape (take n (drop at text)) at (left_at text (at + n))
left_piece text at n shape w le e =
    let k : length (drop at text) - length (drop n (drop at text)) ≡ n = omega (arith, length-drop n (drop at text)) in
    let d : drop n (drop at text) ≡ drop (at + n) text = drop-drop n at text in
    let s = step_from (length text) at (drop at text) (drop n (drop at text)) shape (omega (arith, length-drop at text)) e in
    s ∙ ap (λ (m : ℕ). after_piece shape (take m (drop at text)) at (left_from (length text) (at + m) (drop n (drop at text)))) k
    ∙ ap (λ (l : List ℕ). after_piece shape (take n (drop at text)) at (left_from (length text) (at + n) l)) d

none_from : (n at : ℕ) (t : List ℕ) → piece t ≡ None → left_from n at t ≡ ([], at)
unfolding left_from
none_from zero at t e = refl
none_from (suc n) at t e = rw e refl

pub left_none : (text : List ℕ) (at : ℕ) → piece (drop at text) ≡ None → left_at text at ≡ ([], at)
left_none text at e = none_from (length text) at (drop at text) e

-- ---- they are the tokens of the text

pub record Ran (at : ℕ) (text : List ℕ) (l : Left) : Type 0 where
  pub pieces : List Piece
  pub rest : List ℕ
  pub runs : Runs pieces text rest
  pub listed : l.0 ≡ tokens_at at pieces
  pub up_to : l.1 + length rest ≡ at + length text
  pub ends : StartsNoPiece rest

nothing_left : (text : List ℕ) (at : ℕ) → piece text ≡ None → Ran at text ([], at)
nothing_left text at e = record { pieces = []; rest = text; runs = refl; listed = refl; up_to = refl; ends = piece_none text e }

piece_left : (text : List ℕ) (at : ℕ) (p : Shape × List ℕ) (l : Left) → piece text ≡ Some p → Ran (at + (length text - length p.1)) p.1 l
    → Ran at text (after_piece p.0 (take (length text - length p.1) text) at l)
piece_left text at p l e r =
    let s = piece_sound text p e in
    let k : length text - length p.1 ≡ length s.0 = omega (arith, ap length s.1, length-append s.0 p.1) in
    let b : take (length text - length p.1) text ≡ s.0 = ap (λ (n : ℕ). take n text) k ∙ ap (take (length s.0)) s.1 ∙ take-append-length s.0 p.1 in
    let q : Piece = record { shape = p.0; bytes = s.0 } in
    rw b (record {
      pieces = q ∷ r.pieces;
      rest = r.rest;
      runs = (p.1, s.1, s.2, r.runs);
      listed = ap (λ (ts : List Lexeme). token_at p.0 s.0 at ++ ts) (r.listed ∙ ap (λ (n : ℕ). tokens_at (at + n) r.pieces) k);
      up_to = omega (arith, r.up_to, k, ap length s.1, length-append s.0 p.1);
      ends = r.ends;
    })

ran_step : (n at : ℕ) (text : List ℕ) (o : Option (Shape × List ℕ)) → piece text ≡ o → ((at : ℕ) (r : List ℕ) → length r < length text → Ran at r (left_from n at r)) → Ran at text (left_step o at text (left_from n))
ran_step n at text None e rec = nothing_left text at e
ran_step n at text (Some p) e rec = piece_left text at p (left_from n (at + (length text - length p.1)) p.1) e (rec (at + (length text - length p.1)) p.1 (shorter_after text p e))

pub ran : (n at : ℕ) (text : List ℕ) → length text ≤ n → Ran at text (left_from n at text)
unfolding left_from piece
ran zero at [] le = nothing_left [] at refl
ran zero at (b ∷ text) le = absurd (omega arith)
ran (suc n) at text le = ran_step n at text (piece text) refl (λ at r lt. ran n at r (omega arith))

pub left_tokens : (text : List ℕ) → HasTokens text (left_at text 0).0 (left_at text 0).1
left_tokens text =
    let r = ran (length text) 0 text (omega arith) in
    record { pieces = r.pieces; rest = r.rest; runs = r.runs; listed = r.listed; up_to = omega (arith, r.up_to) }

pub left_ends : (text : List ℕ) → StartsNoPiece (left_tokens text).rest
unfolding left_tokens
left_ends text = (ran (length text) 0 text (omega arith)).ends

pub piece_after : (text rest : List ℕ) (shape : Shape) → piece text ≡ Some (shape, rest) → piece text ≡ Some (shape, drop (length text - length rest) text)
piece_after text rest shape e =
    let s = piece_sound text (shape, rest) e in
    let k : length text - length rest ≡ length s.0 = omega (arith, ap length s.1, length-append s.0 rest) in
    let d : drop (length text - length rest) text ≡ rest = ap (λ (n : ℕ). drop n text) k ∙ ap (drop (length s.0)) s.1 ∙ drop-append-length s.0 rest in
    rw d e
