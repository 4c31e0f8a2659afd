-- The values of strings are UTF-8.
use Rattle.std.proofs.Common.{◌≡◌, ℕ, zero, suc, ◌+◌, ◌<◌, ◌≤◌, Bool, true, false, List, [], ◌∷◌, ◌++◌, length, drop, get_or, map, Option, Some, None, refl, sym, subst, ◌∙◌, arith, inl, inr, append_assoc, length-append, add-one}
use Rattle.std.specs.Prelude.{◌&&◌, ◌||◌, ◌==◌, ◌⊎◌, if◌then◌else◌, nat_lt, nat_le, encode_utf8}
use Rattle.std.specs.List.{flat_map, prefix_len}
use Rattle.std.specs.Str.{IsUtf8}
use Rattle.std.specs.Char.{IsScalar}
use Rattle.std.proofs.lemmas.Bool.Decides.{nat_tests}
use Rattle.std.proofs.lemmas.List.{append-nil, get_or_at}
use Rattle.std.proofs.lemmas.Str.{IsUtf8-append, IsUtf8-nil, IsUtf8-take, IsUtf8-drop, IsUtf8-encode, IsUtf8-from_ascii, IsCharBoundary-before_ascii, IsCharBoundary-after_ascii}
use Rattle.gql_text_lexer.specs.declared.string.Part.{Part}
use Rattle.gql_text_lexer.specs.declared.string.Part.TheVariants.{Plain, Escape, Unicode, Quotes}
use Rattle.gql_text_lexer.specs.Bytes.{is_escape}
use Rattle.gql_text_lexer.specs.Forms.{hex_value, is_hex, hex_code, is_unicode, closing, Closes}
use Rattle.gql_text_lexer.specs.Lines.{is_white, is_blank_line, onto_first, lines_after, lines, least, common, cut, unindented, trim_start, before_rest, trim_end, joined, join}
use Rattle.gql_text_lexer.specs.Values.{escaped, part_value, unescaped, body}
use Rattle.gql_text_lexer.proofs.Values.{body_sound, parts_complete}
use Rattle.gql_text_lexer.proofs.Choices.{both}
use Rattle.gql_text_lexer.proofs.Pieces.{take-append-length}

drop-past : (w : List ℕ) (b : ℕ) (x : List ℕ) → drop (length w + 1) (w ++ b ∷ x) ≡ x
drop-past w b x = rw add-one (go w)
  where
    go : (w : List ℕ) → drop (suc (length w)) (w ++ b ∷ x) ≡ x
    go [] = refl
    go (c ∷ w) = go w

pub utf8_prefix : (w : List ℕ) (b : ℕ) (x : List ℕ) → b < 128 → IsUtf8 (w ++ b ∷ x) → IsUtf8 w
utf8_prefix w b x l u =
    let h : get_or (w ++ b ∷ x) (length w) 0 < 128 = rw (get_or_at w b x 0 (length w) refl) l in
    let n : length w < length (w ++ b ∷ x) = omega (arith, length-append w (b ∷ x)) in
    rw (take-append-length w (b ∷ x)) at (IsUtf8-take (w ++ b ∷ x) (length w) u (IsCharBoundary-before_ascii (w ++ b ∷ x) (length w) n h))

pub utf8_back : (w : List ℕ) (b : ℕ) (x : List ℕ) → b < 128 → IsUtf8 (w ++ b ∷ x) → IsUtf8 x
utf8_back w b x l u =
    let h : get_or (w ++ b ∷ x) (length w) 0 < 128 = rw (get_or_at w b x 0 (length w) refl) l in
    let n : length w < length (w ++ b ∷ x) = omega (arith, length-append w (b ∷ x)) in
    rw (drop-past w b x) at (IsUtf8-drop (w ++ b ∷ x) (length w + 1) u (IsCharBoundary-after_ascii (w ++ b ∷ x) (length w) u n h))

pub utf8_one : (b : ℕ) → b < 128 → IsUtf8 (b ∷ [])
utf8_one b l = IsUtf8-from_ascii (b ∷ []) ascii
  where
    ascii : (i : ℕ) → get_or (b ∷ []) i 0 < 128
    ascii zero = l
    ascii (suc i) = omega arith

-- ---- parts

escape_low : (c : ℕ) → is_escape c ≡ true → (c < 128) × (escaped c < 128)
escape_low c h = (grind (arith, nat_tests), grind (arith, nat_tests))

hex_low : (c : ℕ) → is_hex c ≡ true → c < 128
hex_low c h = grind (arith, nat_tests)

scalar_code : (n : ℕ) → n < 65536 → (nat_lt n 0xD800 || nat_le 0xE000 n) ≡ true → IsScalar n
scalar_code n l h = grind (arith, nat_tests)

hex_bound : (c : ℕ) → is_hex c ≡ true → hex_value c < 16
hex_bound c h = grind (arith, nat_tests)

pub unicode_scalar : (a b c d : ℕ) → is_unicode a b c d ≡ true → IsScalar (hex_code a b c d)
unicode_scalar a b c d h =
    let f = both (is_hex a && is_hex b && is_hex c && is_hex d) (nat_lt (hex_code a b c d) 0xD800 || nat_le 0xE000 (hex_code a b c d)) h in
    let g = both (is_hex a && is_hex b && is_hex c) (is_hex d) f.0 in
    let i = both (is_hex a && is_hex b) (is_hex c) g.0 in
    let j = both (is_hex a) (is_hex b) i.0 in
    scalar_code (hex_code a b c d) (omega (arith, hex_bound a j.0, hex_bound b j.1, hex_bound c i.1, hex_bound d g.1)) f.1

last_low : (a b c d : ℕ) → is_unicode a b c d ≡ true → d < 128
last_low a b c d h =
    let f = both (is_hex a && is_hex b && is_hex c && is_hex d) (nat_lt (hex_code a b c d) 0xD800 || nat_le 0xE000 (hex_code a b c d)) h in
    hex_low d (both (is_hex a && is_hex b && is_hex c) (is_hex d) f.0).1

-- a part of several bytes, of which the first and the last are ASCII
long_part : (w s : List ℕ) (z : ℕ) (rest value more : List ℕ) → z < 128 → IsUtf8 (w ++ 92 ∷ (s ++ z ∷ rest)) → IsUtf8 value → (IsUtf8 rest → IsUtf8 more) → IsUtf8 (w ++ (value ++ more))
long_part w s z rest value more l u v f =
    let t : w ++ 92 ∷ (s ++ z ∷ rest) ≡ (w ++ 92 ∷ s) ++ z ∷ rest = sym (append_assoc w (92 ∷ s) (z ∷ rest)) in
    let x : IsUtf8 rest = utf8_back (w ++ 92 ∷ s) z rest l (subst (λ (b : List ℕ). IsUtf8 b) t u) in
    IsUtf8-append w (value ++ more) (utf8_prefix w 92 (s ++ z ∷ rest) (omega arith) u) (IsUtf8-append value more v (f x))

three_quotes : IsUtf8 (34 ∷ 34 ∷ 34 ∷ [])
three_quotes = let q : IsUtf8 (34 ∷ []) = utf8_one 34 (omega arith) in IsUtf8-append (34 ∷ []) (34 ∷ 34 ∷ []) q (IsUtf8-append (34 ∷ []) (34 ∷ []) q q)

closing_prefix : (block : Bool) (w : List ℕ) → IsUtf8 (w ++ closing block) → IsUtf8 w
closing_prefix false w u = utf8_prefix w 34 [] (omega arith) u
closing_prefix true w u = utf8_prefix w 34 (34 ∷ 34 ∷ []) (omega arith) u

pub values_utf8 : (block : Bool) (ps : List Part) (w text : List ℕ) → Closes block ps text [] → IsUtf8 (w ++ text) → IsUtf8 (w ++ flat_map part_value ps)
values_utf8 block [] w text c u =
    let t : text ≡ closing block = c ∙ append-nil (closing block) in
    rw append-nil (closing_prefix block w (subst (λ (b : List ℕ). IsUtf8 (w ++ b)) t u))
values_utf8 block (Plain b ∷ ps) w text (rest, e, f, c) u =
    let v : IsUtf8 ((w ++ b ∷ []) ++ rest) = rw append_assoc (subst (λ (t : List ℕ). IsUtf8 (w ++ t)) e u) in
    let x : IsUtf8 ((w ++ b ∷ []) ++ flat_map part_value ps) = values_utf8 block ps (w ++ b ∷ []) rest c v in
    subst (λ (t : List ℕ). IsUtf8 t) (append_assoc w (b ∷ []) (flat_map part_value ps)) x
values_utf8 false (Escape k ∷ ps) w text (rest, e, f, c) u =
    let l = escape_low k f in
    long_part w [] k rest (escaped k ∷ []) (flat_map part_value ps) l.0 (subst (λ (t : List ℕ). IsUtf8 (w ++ t)) e u) (utf8_one (escaped k) l.1) (λ (x : IsUtf8 rest). values_utf8 false ps [] rest c x)
values_utf8 true (Escape k ∷ ps) w text (rest, e, f, c) u = absurd f
values_utf8 false (Unicode h i j k ∷ ps) w text (rest, e, f, c) u =
    long_part w (117 ∷ h ∷ i ∷ j ∷ []) k rest (encode_utf8 (hex_code h i j k)) (flat_map part_value ps) (last_low h i j k f) (subst (λ (t : List ℕ). IsUtf8 (w ++ t)) e u) (IsUtf8-encode (hex_code h i j k) (unicode_scalar h i j k f)) (λ (x : IsUtf8 rest). values_utf8 false ps [] rest c x)
values_utf8 true (Unicode h i j k ∷ ps) w text (rest, e, f, c) u = absurd f
values_utf8 block (Quotes ∷ ps) w text (rest, e, f, c) u =
    long_part w (34 ∷ 34 ∷ []) 34 rest (34 ∷ 34 ∷ 34 ∷ []) (flat_map part_value ps) (omega arith) (subst (λ (t : List ℕ). IsUtf8 (w ++ t)) e u) three_quotes (λ (x : IsUtf8 rest). values_utf8 block ps [] rest c x)

opening_utf8 : (block : Bool) (b : List ℕ) → IsUtf8 (closing block ++ b) → IsUtf8 b
opening_utf8 false b u = utf8_back [] 34 b (omega arith) u
opening_utf8 true b u = utf8_back (34 ∷ 34 ∷ []) 34 b (omega arith) u

-- the value of the parts of a string that is text
pub unescaped_utf8 : (text : List ℕ) (p : Bool × List ℕ) → body text ≡ Some p → IsUtf8 text → IsUtf8 (unescaped p.0 p.1)
unescaped_utf8 text p e u =
    let d = body_sound text p e in
    let v : IsUtf8 p.1 = opening_utf8 p.0 p.1 (subst (λ (t : List ℕ). IsUtf8 t) d.whole u) in
    rw (parts_complete p.0 d.parts p.1 [] d.closes) (values_utf8 p.0 d.parts [] p.1 d.closes v)

-- ---- lines

abbrev Each : List (List ℕ) → Type 0
Each [] = Unit {0}
Each (l ∷ ls) = IsUtf8 l × Each ls

abbrev Starts : List ℕ → List (List ℕ) → Type 0
Starts w [] = IsUtf8 w
Starts w (l ∷ ls) = IsUtf8 (w ++ l) × Each ls

starts_each : (ls : List (List ℕ)) → Starts [] ls → Each ls
starts_each [] s = tt
starts_each (l ∷ ls) s = s

starts_one : (w : List ℕ) (b : ℕ) (ls : List (List ℕ)) → Starts (w ++ b ∷ []) ls → Starts w (onto_first b ls)
starts_one w b [] s = (s, tt)
starts_one w b (l ∷ ls) s = (rw append_assoc at s.0, s.1)

lines_utf8 : (cr : Bool) (w text : List ℕ) → IsUtf8 (w ++ text) → Starts w (lines_after cr text)
lines_utf8 cr w [] u = (u, tt)
lines_utf8 cr w (b ∷ text) u = step (b == 10) (b == 13) refl refl (λ (c : Bool) (v : List ℕ). lines_utf8 c v text)
  where
    low : (b k : ℕ) → (b == k) ≡ true → k < 128 → b < 128
    low b k h l = grind (arith, nat_tests)

    step : (s t : Bool) → (b == 10) ≡ s → (b == 13) ≡ t → ((c : Bool) (v : List ℕ) → IsUtf8 (v ++ text) → Starts v (lines_after c text))
        → Starts w (if s then (if cr then lines_after false text else [] ∷ lines_after false text) else (if t then [] ∷ lines_after true text else onto_first b (lines_after false text)))
    step true t e f rec =
        let l : b < 128 = low b 10 e (omega arith) in
        let v = utf8_prefix w b text l u in
        let x = utf8_back w b text l u in
        elim cr as (λ z. Starts w (if z then lines_after false text else [] ∷ lines_after false text)) [
          | true ↦ rec false w (IsUtf8-append w text v x)
          | false ↦ (rw append-nil v, starts_each (lines_after false text) (rec false [] x))
        ]
    step false true e f rec =
        let l : b < 128 = low b 13 f (omega arith) in
        (rw append-nil (utf8_prefix w b text l u), starts_each (lines_after true text) (rec true [] (utf8_back w b text l u)))
    step false false e f rec =
        let v : IsUtf8 ((w ++ b ∷ []) ++ text) = rw append_assoc u in
        starts_one w b (lines_after false text) (rec false (w ++ b ∷ []) v)

white_low : (b : ℕ) → is_white b ≡ true → b < 128
white_low b h = grind (arith, nat_tests)

cut_utf8 : (n : ℕ) (l : List ℕ) → IsUtf8 l → ((is_blank_line l ≡ true) ⊎ (n ≤ prefix_len is_white l)) → IsUtf8 (drop n l)
cut_utf8 zero l u o = u
cut_utf8 (suc n) [] u o = u
cut_utf8 (suc n) (b ∷ l) u (inl h) =
    let f = both (is_white b) (is_blank_line l) h in
    cut_utf8 n l (utf8_back [] b l (white_low b f.0) u) (inl f.1)
cut_utf8 (suc n) (b ∷ l) u (inr h) = step (is_white b) refl h (λ (x : IsUtf8 l) (k : n ≤ prefix_len is_white l). cut_utf8 n l x (inr k))
  where
    step : (t : Bool) → is_white b ≡ t → suc n ≤ (if t then 1 + prefix_len is_white l else 0) → (IsUtf8 l → n ≤ prefix_len is_white l → IsUtf8 (drop n l)) → IsUtf8 (drop n l)
    step true e k rec = rec (utf8_back [] b l (white_low b e) u) (omega arith)
    step false e k rec = absurd (omega arith)

abbrev Under : ℕ → Option ℕ → Type 0
Under n None = Unit {0}
Under n (Some m) = n ≤ m

abbrev CutsEach : ℕ → List (List ℕ) → Type 0
CutsEach n [] = Unit {0}
CutsEach n (l ∷ ls) = ((is_blank_line l ≡ true) ⊎ (n ≤ prefix_len is_white l)) × CutsEach n ls

under_least : (n i : ℕ) (o : Option ℕ) → Under n (least i o) → (n ≤ i) × Under n o
under_least n i None u = (u, tt)
under_least n i (Some m) u = (omega arith, omega arith)

cuts_each : (n : ℕ) (ls : List (List ℕ)) → Under n (common ls) → CutsEach n ls
cuts_each n [] u = tt
cuts_each n (l ∷ ls) u = step (is_blank_line l) refl u (λ (h : Under n (common ls)). cuts_each n ls h)
  where
    step : (t : Bool) → is_blank_line l ≡ t → Under n (if t then common ls else least (prefix_len is_white l) (common ls)) → (Under n (common ls) → CutsEach n ls) → CutsEach n (l ∷ ls)
    step true e u rec = (inl e, rec u)
    step false e u rec = let f = under_least n (prefix_len is_white l) (common ls) u in (inr f.0, rec f.1)

each_cut : (n : ℕ) (ls : List (List ℕ)) → Each ls → CutsEach n ls → Each (map (cut (Some n)) ls)
each_cut n [] e c = tt
each_cut n (l ∷ ls) e c = (cut_utf8 n l e.0 c.0, each_cut n ls e.1 c.1)

each_uncut : (ls : List (List ℕ)) → Each ls → Each (map (cut None) ls)
each_uncut [] e = tt
each_uncut (l ∷ ls) e = (e.0, each_uncut ls e.1)

each_common : (o : Option ℕ) (ls : List (List ℕ)) → common ls ≡ o → Each ls → Each (map (cut o) ls)
each_common None ls c e = each_uncut ls e
each_common (Some n) ls c e = let u : Under n (common ls) = rw c (omega arith) in each_cut n ls e (cuts_each n ls u)

each_unindented : (ls : List (List ℕ)) → Each ls → Each (unindented ls)
each_unindented [] e = tt
each_unindented (l ∷ ls) e = (e.0, each_common (common ls) ls refl e.1)

each_start : (ls : List (List ℕ)) → Each ls → Each (trim_start ls)
each_start [] e = tt
each_start (l ∷ ls) e = step (is_blank_line l) (each_start ls e.1)
  where
    step : (t : Bool) → Each (trim_start ls) → Each (if t then trim_start ls else (l ∷ ls))
    step true r = r
    step false r = e

each_before : (l : List ℕ) (ls : List (List ℕ)) → IsUtf8 l → Each ls → Each (before_rest l ls)
each_before l [] u e = step (is_blank_line l)
  where
    step : (t : Bool) → Each (if t then [] else l ∷ [])
    step true = tt
    step false = (u, tt)
each_before l (m ∷ ls) u e = (u, e)

each_back : (ls : List (List ℕ)) → Each ls → Each (trim_end ls)
each_back [] e = tt
each_back (l ∷ ls) e = each_before l (trim_end ls) e.0 (each_back ls e.1)

joined_utf8 : (ls : List (List ℕ)) → Each ls → IsUtf8 (joined ls)
joined_utf8 [] e = IsUtf8-nil
joined_utf8 (l ∷ ls) e = IsUtf8-append (10 ∷ []) (l ++ joined ls) (utf8_one 10 (omega arith)) (IsUtf8-append l (joined ls) e.0 (joined_utf8 ls e.1))

join_utf8 : (ls : List (List ℕ)) → Each ls → IsUtf8 (join ls)
join_utf8 [] e = IsUtf8-nil
join_utf8 (l ∷ ls) e = IsUtf8-append l (joined ls) e.0 (joined_utf8 ls e.1)

pub block_utf8 : (text : List ℕ) → IsUtf8 text → IsUtf8 (join (trim_end (trim_start (unindented (lines text)))))
block_utf8 text u =
    let e = starts_each (lines text) (lines_utf8 false [] text u) in
    join_utf8 (trim_end (trim_start (unindented (lines text)))) (each_back (trim_start (unindented (lines text))) (each_start (unindented (lines text)) (each_unindented (lines text) e)))
