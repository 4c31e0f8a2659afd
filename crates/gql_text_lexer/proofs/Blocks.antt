-- The lines of a block string.
use Rattle.std.proofs.Common.{◌≡◌, ℕ, suc, ◌+◌, ◌-◌, ◌<◌, ◌≤◌, min, Bool, true, false, List, [], ◌∷◌, ◌++◌, length, take, drop, get_or, map, Option, Some, None, refl, sym, ap, ◌∙◌, arith, append_assoc}
use Rattle.std.specs.Prelude.{◌==◌, if◌then◌else◌}
use Rattle.std.specs.List.{prefix_len}
use Rattle.std.proofs.lemmas.List.{append-nil, map_push, take_more}
use Rattle.gql_text_lexer.specs.Lines.{is_white, is_blank_line, onto_first, lines_after, lines, least, common, before_rest, trim_end, joined, in_one_line, after_lf, after_break, more_lines}

-- an LF after a CR belongs to it
cr_step : (text : List ℕ) → lines_after true text ≡ lines (after_lf text)
cr_step [] = refl
cr_step (b ∷ text) = step (b == 10) refl
  where
    step : (t : Bool) → (b == 10) ≡ t → lines_after true (b ∷ text) ≡ lines (if t then text else (b ∷ text))
    step true e = rw e refl
    step false e = rw e refl

pub line_step : (text : List ℕ) → lines text ≡ take (prefix_len in_one_line text) text ∷ more_lines (after_break (drop (prefix_len in_one_line text) text))
line_step [] = refl
line_step (b ∷ text) = step (b == 10) (b == 13) refl refl (line_step text)
  where
    step : (s t : Bool) → (b == 10) ≡ s → (b == 13) ≡ t
        → lines text ≡ take (prefix_len in_one_line text) text ∷ more_lines (after_break (drop (prefix_len in_one_line text) text))
        → lines (b ∷ text) ≡ take (prefix_len in_one_line (b ∷ text)) (b ∷ text) ∷ more_lines (after_break (drop (prefix_len in_one_line (b ∷ text)) (b ∷ text)))
    step true t e f rec = rw (e, e) refl
    step false true e f rec = rw (e, f, e, f) (ap (λ (l : List (List ℕ)). [] ∷ l) (cr_step text))
    step false false e f rec = let k : 1 + prefix_len in_one_line text ≡ suc (prefix_len in_one_line text) = omega arith in rw (e, f, k) (ap (onto_first b) rec)

-- what the lines so far and the rest have in common
abbrev pub meet : Option ℕ → Option ℕ → Option ℕ
meet None b = b
meet (Some n) b = least n b

abbrev pub ReadSoFar : Option ℕ → List ℕ → List ℕ → Type 0
ReadSoFar best rest text = meet best (common (lines rest)) ≡ common (lines text)

meet_more : (best : Option ℕ) (line : List ℕ) (more : List (List ℕ)) → meet best (common (line ∷ more)) ≡ meet (if is_blank_line line then best else least (prefix_len is_white line) best) (common more)
meet_more best line more = step best (is_blank_line line) (prefix_len is_white line) (common more)
  where
    step : (best : Option ℕ) (t : Bool) (i : ℕ) (c : Option ℕ) → meet best (if t then c else least i c) ≡ meet (if t then best else least i best) c
    step best true i c = refl
    step None false i c = refl
    step (Some m) false i None = let e : min m i ≡ min i m = omega arith in ap (λ (n : ℕ). Some n) e
    step (Some m) false i (Some k) = let e : min m (min i k) ≡ min (min i m) k = omega arith in ap (λ (n : ℕ). Some n) e

meet_none : (best : Option ℕ) → meet best None ≡ best
meet_none None = refl
meet_none (Some n) = refl

pub read_more : (best : Option ℕ) (rest next line text : List ℕ) → ReadSoFar best rest text → lines rest ≡ line ∷ lines next
    → ReadSoFar (if is_blank_line line then best else least (prefix_len is_white line) best) next text
read_more best rest next line text r e = sym (meet_more best line (lines next)) ∙ ap (λ (l : List (List ℕ)). meet best (common l)) (sym e) ∙ r

pub read_all : (best : Option ℕ) (rest line text : List ℕ) → ReadSoFar best rest text → lines rest ≡ line ∷ []
    → (if is_blank_line line then best else least (prefix_len is_white line) best) ≡ common (lines text)
read_all best rest line text r e = sym (meet_none _) ∙ sym (meet_more best line []) ∙ ap (λ (l : List (List ℕ)). meet best (common l)) (sym e) ∙ r

pub joined_push : (xs : List (List ℕ)) (x : List ℕ) → joined (xs ++ x ∷ []) ≡ joined xs ++ (10 ∷ x)
joined_push [] x = ap (λ (l : List ℕ). 10 ∷ l) (append-nil x)
joined_push (y ∷ xs) x = ap (λ (l : List ℕ). 10 ∷ (y ++ l)) (joined_push xs x) ∙ ap (λ (l : List ℕ). 10 ∷ l) (sym (append_assoc y (joined xs) (10 ∷ x)))

pub trim_back_push : (xs : List (List ℕ)) (x : List ℕ) → is_blank_line x ≡ true → trim_end (xs ++ x ∷ []) ≡ trim_end xs
trim_back_push [] x e = rw e refl
trim_back_push (y ∷ xs) x e = ap (before_rest y) (trim_back_push xs x e)

pub trim_back_stays : (xs : List (List ℕ)) (x : List ℕ) → is_blank_line x ≡ false → trim_end (xs ++ x ∷ []) ≡ xs ++ x ∷ []
trim_back_stays [] x e = rw e refl
trim_back_stays (y ∷ []) x e = ap (before_rest y) (trim_back_stays [] x e)
trim_back_stays (y ∷ z ∷ xs) x e = ap (before_rest y) (trim_back_stays (z ∷ xs) x e)

pub joined_more : {X : Type 0} (f : X → List ℕ) (xs : List X) (i : ℕ) (d : X) → i < length xs → joined (map f (take (i + 1) xs)) ≡ joined (map f (take i xs)) ++ (10 ∷ f (get_or xs i d))
joined_more {X = X} f xs i d l = ap (λ (r : List X). joined (map f r)) (take_more xs i d l) ∙ rw (map_push f (take i xs) (get_or xs i d)) (joined_push (map f (take i xs)) (f (get_or xs i d)))

pub trim_back_less : {X : Type 0} (f : X → List ℕ) (xs : List X) (n : ℕ) (d : X) → 0 < n → n ≤ length xs → is_blank_line (f (get_or xs (n - 1) d)) ≡ true
    → trim_end (map f (take (n - 1) xs)) ≡ trim_end (map f (take n xs))
trim_back_less {X = X} f xs n d s l e =
    let k : (n - 1) + 1 ≡ n = omega arith in
    let t = rw k at (take_more xs (n - 1) d (omega arith)) in
    sym (rw (t, map_push f (take (n - 1) xs) (get_or xs (n - 1) d)) (trim_back_push (map f (take (n - 1) xs)) (f (get_or xs (n - 1) d)) e))

pub trim_back_ends : {X : Type 0} (f : X → List ℕ) (xs : List X) (n : ℕ) (d : X) → 0 < n → n ≤ length xs → is_blank_line (f (get_or xs (n - 1) d)) ≡ false
    → map f (take n xs) ≡ trim_end (map f (take n xs))
trim_back_ends {X = X} f xs n d s l e =
    let k : (n - 1) + 1 ≡ n = omega arith in
    let t = rw k at (take_more xs (n - 1) d (omega arith)) in
    let p = map_push f (take (n - 1) xs) (get_or xs (n - 1) d) in
    let h : map f (take n xs) ≡ map f (take (n - 1) xs) ++ f (get_or xs (n - 1) d) ∷ [] = ap (λ (r : List X). map f r) t ∙ p in
    h ∙ sym (trim_back_stays (map f (take (n - 1) xs)) (f (get_or xs (n - 1) d)) e) ∙ ap trim_end (sym h)
