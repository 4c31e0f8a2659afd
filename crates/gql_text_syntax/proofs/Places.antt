-- The terminals of a text: their places rise, and none is an end.
use Rattle.std.proofs.Common.{◌≡◌, ℕ, zero, suc, ◌+◌, ◌-◌, ◌<◌, ◌≤◌, Bool, true, false, List, [], ◌∷◌, ◌++◌, length, drop, map, refl, sym, ap, subst, ◌∙◌, arith, length-append, inl, inr}
use Rattle.std.proofs.lemmas.List.{drop-drop}
use Rattle.std.specs.Prelude.{not, ◌&&◌, nat_lt}
use Rattle.std.proofs.lemmas.Bool.Decides.{nat_tests}
use Rattle.gql_grammar.specs.Form.{ArePlaced, among, is_end}
use Rattle.gql_grammar.proofs.Stops.{no_end, no_ends}
use Rattle.gql_text_lexer.specs.declared.token.Shape.{Shape}
use Rattle.gql_text_lexer.specs.declared.token.Shape.TheVariants.{Ignored, Token}
use Rattle.gql_text_lexer.specs.Tokens.{Piece, Runs, Lexeme, token_at, tokens_at, HasTokens}
use Rattle.gql_text_lexer.proofs.Pieces.{solid, one_piece, drop-append-length}
use Rattle.gql_text_lexer.proofs.Lists.{shorter}
use Rattle.gql_text_lexer.specs.Forms.{StartsNoPiece}
use Rattle.gql_text_syntax.specs.Documents.{Ends}
use Rattle.gql_text_syntax.specs.Sorts.{ends, terminal_of, end_terminal}
use Rattle.gql_text_syntax.proofs.TokenSorts.{no_end_sort}

placed_by : (sort place from at : ℕ) (ps : List Piece) (text rest : List ℕ) → from ≤ at → at + length text ≡ place + length rest → Runs ps text rest
    → ArePlaced from (map terminal_of (tokens_at at ps) ++ end_terminal sort place ∷ [])
placed_by sort place from at [] text rest l e r = (omega (arith, ap length r), tt)
placed_by sort place from at (p ∷ ps) text rest l e (after, q, k, r) =
    let long = solid p.shape p.bytes after k in
    let further : (at + length p.bytes) + length after ≡ place + length rest = omega (arith, ap length q, length-append p.bytes after) in
    step p.shape (placed_by sort place from (at + length p.bytes) ps after rest (omega arith) further r) (placed_by sort place (at + 1) (at + length p.bytes) ps after rest (omega arith) further r)
  where
    step : (s : Shape) → ArePlaced from (map terminal_of (tokens_at (at + length p.bytes) ps) ++ end_terminal sort place ∷ []) → ArePlaced (at + 1) (map terminal_of (tokens_at (at + length p.bytes) ps) ++ end_terminal sort place ∷ [])
        → ArePlaced from (map terminal_of (token_at s p.bytes at ++ tokens_at (at + length p.bytes) ps) ++ end_terminal sort place ∷ [])
    step Ignored x y = x
    step (Token k) x y = (l, y)

pub placed : (text : List ℕ) (tokens : List Lexeme) (place sort : ℕ) → HasTokens text tokens place → ArePlaced 0 (map terminal_of tokens ++ end_terminal sort place ∷ [])
placed text tokens place sort h = rw h.listed (placed_by sort place 0 0 h.pieces text h.rest (omega arith) (omega (arith, h.up_to)) h.runs)

-- a sort that is none of the ends
no_ends_of : (n : ℕ) → among n ends ≡ false → no_ends (n ∷ []) ≡ true
no_ends_of n e = by_test (nat_lt n 2) refl
  where
    small : (n : ℕ) → n < 2 → among n ends ≡ false → ⊥
    small zero lt e = cc
    small (suc zero) lt e = cc
    small (suc (suc n)) lt e = omega arith

    by_test : (b : Bool) → nat_lt n 2 ≡ b → (not b && true) ≡ true
    by_test false k = refl
    by_test true k = absurd (small n (grind (arith, nat_tests)) e)

pub no_end_here : (tokens : List Lexeme) → no_end (map terminal_of tokens) ≡ true
no_end_here [] = refl
no_end_here (t ∷ ts) = both (not (is_end (terminal_of t).sort)) (no_ends_of _ (no_end_sort t.kind t.text)) (no_end_here ts)
  where
    both : (x : Bool) → (x && true) ≡ true → no_end (map terminal_of ts) ≡ true → (x && no_end (map terminal_of ts)) ≡ true
    both true a b = b
    both false a b = absurd cc

-- ---- the tokens of a text end at one place

no_further : (ps qs : List Piece) (text x y : List ℕ) → Runs ps text x → StartsNoPiece x → Runs qs text y → length x ≤ length y
no_further [] [] text x y r n s = omega (arith, ap length r, ap length s)
no_further [] (q ∷ qs) text x y r n (b, f, m, s) = absurd (n q.shape q.bytes b (sym r ∙ f) m)
no_further (p ∷ ps) [] text x y (a, e, k, r) n s = omega (arith, ap length s, ap length e, length-append p.bytes a, shorter ps a x r)
no_further (p ∷ ps) (q ∷ qs) text x y (a, e, k, r) n (b, f, m, s) =
    let one = one_piece p.shape q.shape p.bytes a q.bytes b k m (sym e ∙ f) in
    no_further ps qs a x y r n (subst (λ (t : List ℕ). Runs qs t y) (sym one.2) s)

rest_is : (ps : List Piece) (text rest : List ℕ) → Runs ps text rest → drop (length text - length rest) text ≡ rest
rest_is [] text rest r = let z : length rest - length rest ≡ 0 = omega arith in rw (r, z) refl
rest_is (p ∷ ps) text rest (after, e, k, r) =
    let le = shorter ps after rest r in
    let n : length text - length rest ≡ length p.bytes + (length after - length rest) = omega (arith, le, ap length e, length-append p.bytes after) in
    ap (λ (m : ℕ). drop m text) n ∙ ap (drop (length p.bytes + (length after - length rest))) e ∙ sym (drop-drop (length after - length rest) (length p.bytes) (p.bytes ++ after))
    ∙ ap (drop (length after - length rest)) (drop-append-length p.bytes after) ∙ rest_is ps after rest r

pub rest_of : (text : List ℕ) (ts : List Lexeme) (p : ℕ) (h : HasTokens text ts p) → drop p text ≡ h.rest
rest_of text ts p h = let n : p ≡ length text - length h.rest = omega (arith, h.up_to) in ap (λ (m : ℕ). drop m text) n ∙ rest_is h.pieces text h.rest h.runs

pub not_beyond : (text : List ℕ) (ts us : List Lexeme) (p q s : ℕ) → HasTokens text ts p → Ends text p s → HasTokens text us q → q ≤ p
not_beyond text ts us p q s h (inl e) k = omega (arith, e.0, k.up_to)
not_beyond text ts us p q s h (inr e) k =
    let n = subst StartsNoPiece (rest_of text ts p h) e.1 in
    omega (arith, h.up_to, k.up_to, no_further h.pieces k.pieces text h.rest k.rest h.runs n k.runs)

pub one_end : (text : List ℕ) (ts us : List Lexeme) (p q s t : ℕ) → HasTokens text ts p → Ends text p s → HasTokens text us q → Ends text q t → (p ≡ q) × (s ≡ t)
one_end text ts us p q s t h e k f =
    let same : p ≡ q = omega (arith, not_beyond text ts us p q s h e k, not_beyond text us ts q p t k f h) in
    (same, sorts e f same)
  where
    sorts : Ends text p s → Ends text q t → p ≡ q → s ≡ t
    sorts (inl e) (inl f) same = e.1 ∙ sym f.1
    sorts (inl e) (inr f) same = absurd (omega (arith, e.0, f.0, same))
    sorts (inr e) (inl f) same = absurd (omega (arith, e.0, f.0, same))
    sorts (inr e) (inr f) same = e.2 ∙ sym f.2
