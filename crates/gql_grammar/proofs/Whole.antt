-- Whole texts: what is found is spelled, what is spelled is found, and a fault is the first stop.
use Rattle.std.proofs.Common.{◌≡◌, ℕ, ◌+◌, ◌<◌, ◌≤◌, Bool, true, false, cond, List, [], ◌∷◌, ◌++◌, length, Result, Ok, Err, refl, sym, ap, subst, ◌∙◌, append_assoc, arith, length-append, inl, inr}
use Rattle.std.specs.Prelude.{not, ◌==◌, ◌⊎◌}
use Rattle.std.proofs.lemmas.List.{append-nil}
use Rattle.std.proofs.lemmas.Bool.{eqb-true}
use Rattle.gql_grammar.specs.Form.{Terminal, end_of_text, is_end, Fault, Syntax, Refused, Stop, Read, ◌>>=◌, starts, place, Form, only_end, all_read, Stands, StopsAt, IsStop, ArePlaced}
use Rattle.gql_grammar.proofs.Laws.{bind_ok}
use Rattle.gql_grammar.proofs.Stops.{Exact, Meets, Breaks, no_end, split, both_true, refused_stop}

abbrev done : {A : Type 0} → A → Result A Stop
done a = Ok a

-- only the last terminal is one of the end
pub last_only : (toks : List Terminal) (end : Terminal) (u : List Terminal) (t : Terminal) (rest : List Terminal) → no_end toks ≡ true → is_end t.sort ≡ true → toks ++ end ∷ [] ≡ u ++ t ∷ rest → (toks ≡ u) × (end ≡ t) × (rest ≡ [])
last_only [] end [] t rest z e p = (refl, cc, cc)
last_only [] end (x ∷ u) t rest z e p = absurd (omega (arith, ap length p, length-append u (t ∷ rest)))
last_only (h ∷ toks) end [] t rest z e p =
    let same : h ≡ t = cc in
    let n = both_true (not (is_end h.sort)) (no_end toks) z in
    let m : not (is_end t.sort) ≡ true = subst (λ (x : Terminal). not (is_end x.sort) ≡ true) same n.0 in
    absurd (no (is_end t.sort) e m)
  where
    no : (b : Bool) → b ≡ true → not b ≡ true → ⊥
    no true e m = cc
    no false e m = cc
last_only (h ∷ toks) end (x ∷ u) t rest z e p =
    let n = both_true (not (is_end h.sort)) (no_end toks) z in
    let q : toks ++ end ∷ [] ≡ u ++ t ∷ rest = cc in
    let r = last_only toks end u t rest n.1 e q in
    let first : h ≡ x = cc in
    let others : toks ≡ u = r.0 in
    (cc, r.1, r.2)

ends_so : (toks : List Terminal) (end : Terminal) → is_end end.sort ≡ true → no_end (toks ++ end ∷ []) ≡ true → ⊥
ends_so [] end z h = let e : no_end (end ∷ []) ≡ false = rw z refl in cc
ends_so (t ∷ toks) end z h = ends_so toks end z (both_true (not (is_end t.sort)) (no_end (toks ++ end ∷ [])) h).1

left_end : (rest : List Terminal) → only_end rest ≡ true → (t : Terminal) × (more : List Terminal) × (rest ≡ t ∷ more) × (t.sort ≡ end_of_text)
left_end [] e = absurd cc
left_end (t ∷ more) e = (t, more, refl, eqb-true t.sort 0 e)

same_here : (x : List Terminal) (t u : Terminal) (y z : List Terminal) → x ++ t ∷ y ≡ x ++ u ∷ z → t ≡ u
same_here [] t u y z e = cc
same_here (h ∷ x) t u y z e = same_here x t u y z (let q : x ++ t ∷ y ≡ x ++ u ∷ z = cc in q)

-- the places rise
placed_below : (from : ℕ) (x : List Terminal) (t : Terminal) (y : List Terminal) (u : Terminal) (rest : List Terminal) → ArePlaced from (x ++ t ∷ (y ++ u ∷ rest)) → t.at < u.at
placed_below from [] t y u rest p = omega (arith, behind (t.at + 1) y u rest p.1)
  where
    behind : (low : ℕ) (y : List Terminal) (u : Terminal) (rest : List Terminal) → ArePlaced low (y ++ u ∷ rest) → low ≤ u.at
    behind low [] u rest p = p.0
    behind low (h ∷ y) u rest p = omega (arith, p.0, behind (h.at + 1) y u rest p.1)
placed_below from (h ∷ x) t y u rest p = placed_below (h.at + 1) x t y u rest p.1

module _ {A : Type 0} (f : Form A) (ef : Exact f) (toks : List Terminal) (end : Terminal) (clean : no_end toks ≡ true) (z : is_end end.sort ≡ true) (quiet : starts f.more (end ∷ []) ≡ false) where
  abbrev by_end : A × List Terminal → Result A Stop
  by_end x = cond (only_end x.1) (Ok x.0) (Err (record { fault = Syntax; at = place x.1 }))

  by_test : (b : Bool) (a x : A) (s : Stop) → cond b (Ok x) (Err s) ≡ done a → (b ≡ true) × (x ≡ a)
  by_test true a x s e = (refl, cc)
  by_test false a x s e = absurd cc

  pub all_found : (a : A) → all_read f.read (toks ++ end ∷ []) ≡ Ok a → f.spells a toks × (end.sort ≡ end_of_text)
  all_found a e =
      let r = bind_ok (f.read (toks ++ end ∷ [])) by_end a e in
      let l = by_test (only_end r.0.1) a r.0.0 (record { fault = Syntax; at = place r.0.1 }) r.2 in
      let x = left_end r.0.1 l.0 in
      let u = ef.lawful.found (toks ++ end ∷ []) r.0.0 r.0.1 r.1 in
      let same = last_only toks end u.0 x.0 x.1 clean (rw x.3 refl) (u.2 ∙ ap (λ (w : List Terminal). u.0 ++ w) x.2) in
      (rw same.0 (subst (λ (v : A). f.spells v u.0) l.1 u.1), rw same.1 x.3)

  reads : (a : A) → f.spells a toks → f.read (toks ++ end ∷ []) ≡ Ok (a, end ∷ [])
  reads a s = ef.lawful.only a toks (end ∷ []) s quiet

  pub all_only : (a : A) → end.sort ≡ end_of_text → f.spells a toks → all_read f.read (toks ++ end ∷ []) ≡ Ok a
  all_only a e s = rw (reads a s, e) refl

  -- what begins one is not all tokens with the end
  not_all : (u : List Terminal) → f.begins u → toks ++ end ∷ [] ≡ u → ⊥
  not_all u b e = ends_so toks end z (ef.proper (toks ++ end ∷ []) (subst f.begins (sym e) b))

  ended : (t : Terminal) → t.sort ≡ end_of_text → is_end t.sort ≡ true
  ended t e = rw e refl

  stands : (d : Stop) (u : List Terminal) (t : Terminal) (rest : List Terminal) → f.read (toks ++ end ∷ []) ≡ Err d → toks ++ end ∷ [] ≡ u ++ t ∷ rest → (k : Fault) → Breaks k f.begins f.breaks u (t ∷ rest) → Stands f k u t
  stands d u t rest e parts Syntax b = (b, no)
    where
      no : t.sort ≡ end_of_text → (a : A) → f.spells a u → ⊥
      no h a s =
          let same = last_only toks end u t rest clean (ended t h) parts in
          let ok = reads a (rw same.0 s) in
          cc
  stands d u t rest e parts (Refused n) b = b

  by_rest : (c : Bool) (a : A) (t : Terminal) (rest u : List Terminal) (s : Stop) → (t.sort == 0) ≡ c → f.spells a u → toks ++ end ∷ [] ≡ u ++ t ∷ rest → (f.begins (u ++ t ∷ []) → ⊥) → cond c (Ok a) (Err (record { fault = Syntax; at = t.at })) ≡ Err s → StopsAt f (toks ++ end ∷ []) s
  by_rest true a t rest u s k su parts halt e = absurd cc
  by_rest false a t rest u s k su parts halt e =
      let made : Stop = record { fault = Syntax; at = t.at } in
      let same : made ≡ s = cc in
      let there : Stands f Syntax u t = (halt, λ h. absurd (no h)) in
      subst (StopsAt f (toks ++ end ∷ [])) same (record { before = u; here = t; after = rest; parts = parts; at = refl; begun = ef.begun a u su; stands = there })
    where
      no : t.sort ≡ end_of_text → ⊥
      no h = let n : (t.sort == 0) ≡ true = rw h refl in cc

  by_read : (r : Read A) (s : Stop) → f.read (toks ++ end ∷ []) ≡ r → Meets f (toks ++ end ∷ []) r → (r >>= by_end) ≡ Err s → StopsAt f (toks ++ end ∷ []) s
  by_read (Ok (a, [])) s o (u, su, parts, halt) e = absurd (not_all u (ef.begun a u su) (parts ∙ append-nil u))
  by_read (Ok (a, t ∷ rest)) s o (u, su, parts, halt) e = by_rest (t.sort == 0) a t rest u s refl su parts halt e
  by_read (Err d) s o (u, [], bu, parts, at, b) e = absurd (not_all u bu (parts ∙ append-nil u))
  by_read (Err d) s o (u, t ∷ rest, bu, parts, at, b) e =
      let same : d ≡ s = cc in
      subst (StopsAt f (toks ++ end ∷ [])) same (record { before = u; here = t; after = rest; parts = parts; at = at; begun = bu; stands = stands d u t rest o parts d.fault b })

  pub all_stops : (s : Stop) → all_read f.read (toks ++ end ∷ []) ≡ Err s → StopsAt f (toks ++ end ∷ []) s
  all_stops s e = by_read (f.read (toks ++ end ∷ [])) s refl (ef.meets (toks ++ end ∷ [])) e

  -- ---- the first stop

  -- a token before others that begin one is a fault only where it is refused, and then it is what reading gives
  earlier : (k : Fault) (x : List Terminal) (t : Terminal) (y rest : List Terminal) → f.begins (x ++ t ∷ y) → toks ++ end ∷ [] ≡ x ++ t ∷ rest → Stands f k x t → f.read (toks ++ end ∷ []) ≡ Err (refused_stop t)
  earlier Syntax x t y rest b parts h =
      absurd (h.0 (ef.closed (x ++ t ∷ []) y (subst f.begins (sym (append_assoc x (t ∷ []) y)) b)))
  earlier (Refused n) x t y rest b parts h = rw parts (ef.refuses x t rest h.1)

  from_read : (r : Read A) (d s : Stop) → r ≡ Err d → (r >>= by_end) ≡ Err s → s ≡ d
  from_read (Ok x) d s e h = absurd cc
  from_read (Err c) d s e h = cc

  least_by : (s other : Stop) → ArePlaced 0 (toks ++ end ∷ []) → all_read f.read (toks ++ end ∷ []) ≡ Err s → (a : StopsAt f (toks ++ end ∷ []) s) (b : StopsAt f (toks ++ end ∷ []) other)
      → ((w : List Terminal) × (b.before ≡ a.before ++ w)) ⊎ ((w : List Terminal) × (a.before ≡ b.before ++ w) × (b.here ∷ b.after ≡ w ++ a.here ∷ a.after)) → s.at ≤ other.at
  least_by s other p e a b (inl (w, h)) = by_between w h
    where
      by_between : (w : List Terminal) → b.before ≡ a.before ++ w → s.at ≤ other.at
      by_between [] h =
          let same : a.before ++ a.here ∷ a.after ≡ a.before ++ b.here ∷ b.after = sym a.parts ∙ b.parts ∙ ap (λ (l : List Terminal). l ++ b.here ∷ b.after) (h ∙ append-nil a.before) in
          let one = same_here a.before a.here b.here a.after b.after same in
          omega (arith, a.at, b.at, ap (λ (t : Terminal). t.at) one)
      by_between (x ∷ w) h =
          let parts : a.before ++ a.here ∷ a.after ≡ a.before ++ x ∷ (w ++ b.here ∷ b.after) =
          sym a.parts ∙ b.parts ∙ ap (λ (l : List Terminal). l ++ b.here ∷ b.after) h ∙ append_assoc a.before (x ∷ w) (b.here ∷ b.after) in
          let one = same_here a.before a.here x a.after (w ++ b.here ∷ b.after) parts in
          let placed : ArePlaced 0 (a.before ++ x ∷ (w ++ b.here ∷ b.after)) = subst (ArePlaced 0) (a.parts ∙ parts) p in
          omega (arith, a.at, b.at, ap (λ (t : Terminal). t.at) one, placed_below 0 a.before x w b.here b.after placed)
  least_by s other p e a b (inr ([], h, k)) = let one : b.here ≡ a.here = cc in omega (arith, a.at, b.at, ap (λ (t : Terminal). t.at) one)
  least_by s other p e a b (inr (x ∷ w, h, k)) =
      let one : b.here ≡ x = cc in
      let begun : f.begins (b.before ++ b.here ∷ w) = rw one (subst f.begins h a.begun) in
      let r = earlier other.fault b.before b.here w b.after begun b.parts b.stands in
      let same = from_read (f.read (toks ++ end ∷ [])) (refused_stop b.here) s r e in
      omega (arith, b.at, ap (λ (d : Stop). d.at) same)

  pub all_first : ArePlaced 0 (toks ++ end ∷ []) → (s : Stop) → all_read f.read (toks ++ end ∷ []) ≡ Err s → IsStop f (toks ++ end ∷ []) s
  all_first p s e = record {
    stops = all_stops s e;
    least = λ other b. let a = all_stops s e in least_by s other p e a b (split a.before (a.here ∷ a.after) b.before (b.here ∷ b.after) (sym a.parts ∙ b.parts));
  }

  -- where a value is read, there is no stop
  pub none_stops : (a : A) → all_read f.read (toks ++ end ∷ []) ≡ Ok a → (s : Stop) → StopsAt f (toks ++ end ∷ []) s → ⊥
  none_stops a e s b = by_split (split toks (end ∷ []) b.before (b.here ∷ b.after) b.parts)
    where
      w : f.spells a toks × (end.sort ≡ end_of_text)
      w = all_found a e

      refused_no : f.read (toks ++ end ∷ []) ≡ Err (refused_stop b.here) → ⊥
      refused_no r = let ok = reads a w.0 in cc

      at_end : (k : Fault) → b.before ≡ toks → b.here ≡ end → Stands f k b.before b.here → ⊥
      at_end Syntax h i k = k.1 (rw i w.1) a (rw h w.0)
      at_end (Refused n) h i k = refused_no (rw b.parts (ef.refuses b.before b.here b.after k.1))

      by_split : ((v : List Terminal) × (b.before ≡ toks ++ v)) ⊎ ((v : List Terminal) × (toks ≡ b.before ++ v) × (b.here ∷ b.after ≡ v ++ end ∷ [])) → ⊥
      by_split (inl ([], h)) =
          let f1 : b.before ≡ toks = h ∙ append-nil toks in
          let parts : toks ++ end ∷ [] ≡ toks ++ b.here ∷ b.after = b.parts ∙ ap (λ (l : List Terminal). l ++ b.here ∷ b.after) f1 in
          at_end s.fault f1 (sym (same_here toks end b.here [] b.after parts)) b.stands
      by_split (inl (x ∷ v, h)) =
          absurd (omega (arith, ap length b.parts, ap length h, length-append toks (end ∷ []), length-append toks (x ∷ v), length-append b.before (b.here ∷ b.after)))
      by_split (inr ([], h, k)) =
          let f1 : b.before ≡ toks = sym (h ∙ append-nil b.before) in
          let i : b.here ≡ end = cc in
          at_end s.fault f1 i b.stands
      by_split (inr (x ∷ v, h, k)) =
          let one : b.here ≡ x = cc in
          let begun : f.begins (b.before ++ b.here ∷ v) = rw one (subst f.begins h (ef.begun a toks w.0)) in
          refused_no (earlier s.fault b.before b.here v b.after begun b.parts b.stands)

  -- ---- there is one first stop

  abbrev made : Fault → ℕ → Stop
  made k at = record { fault = k; at = at }

  same_fault : (k j : Fault) (u : List Terminal) (t : Terminal) → Stands f k u t → Stands f j u t → k ≡ j
  same_fault Syntax Syntax u t a b = refl
  same_fault Syntax (Refused m) u t a b = absurd (a.0 (ef.broken u t b.1))
  same_fault (Refused n) Syntax u t a b = absurd (b.0 (ef.broken u t a.1))
  same_fault (Refused n) (Refused m) u t a b = ap Refused (a.0 ∙ sym b.0)

  same_stop : (s t : Stop) → s.fault ≡ t.fault → s.at ≡ t.at → s ≡ t
  same_stop s t e h = ap (λ (k : Fault). made k s.at) e ∙ ap (made t.fault) h

  one_by : (s t : Stop) → ArePlaced 0 (toks ++ end ∷ []) → s.at ≡ t.at → (a : StopsAt f (toks ++ end ∷ []) s) (b : StopsAt f (toks ++ end ∷ []) t)
      → ((w : List Terminal) × (b.before ≡ a.before ++ w)) ⊎ ((w : List Terminal) × (a.before ≡ b.before ++ w) × (b.here ∷ b.after ≡ w ++ a.here ∷ a.after)) → s ≡ t
  one_by s t p e a b (inl ([], h)) =
      let f1 : b.before ≡ a.before = h ∙ append-nil a.before in
      let parts : a.before ++ a.here ∷ a.after ≡ a.before ++ b.here ∷ b.after = sym a.parts ∙ b.parts ∙ ap (λ (l : List Terminal). l ++ b.here ∷ b.after) f1 in
      let one : a.here ≡ b.here = same_here a.before a.here b.here a.after b.after parts in
      same_stop s t (same_fault s.fault t.fault b.before b.here (rw (f1, sym one) a.stands) b.stands) e
  one_by s t p e a b (inl (x ∷ w, h)) =
      let parts : a.before ++ a.here ∷ a.after ≡ a.before ++ x ∷ (w ++ b.here ∷ b.after) =
      sym a.parts ∙ b.parts ∙ ap (λ (l : List Terminal). l ++ b.here ∷ b.after) h ∙ append_assoc a.before (x ∷ w) (b.here ∷ b.after) in
      let one = same_here a.before a.here x a.after (w ++ b.here ∷ b.after) parts in
      let placed : ArePlaced 0 (a.before ++ x ∷ (w ++ b.here ∷ b.after)) = subst (ArePlaced 0) (a.parts ∙ parts) p in
      absurd (omega (arith, e, a.at, b.at, ap (λ (t : Terminal). t.at) one, placed_below 0 a.before x w b.here b.after placed))
  one_by s t p e a b (inr ([], h, k)) =
      let f1 : a.before ≡ b.before = h ∙ append-nil b.before in
      let one : b.here ≡ a.here = cc in
      same_stop s t (same_fault s.fault t.fault b.before b.here (rw (sym f1, one) a.stands) b.stands) e
  one_by s t p e a b (inr (x ∷ w, h, k)) =
      let one : b.here ≡ x = cc in
      let rest : b.after ≡ w ++ a.here ∷ a.after = cc in
      let placed : ArePlaced 0 (b.before ++ b.here ∷ (w ++ a.here ∷ a.after)) = subst (ArePlaced 0) (b.parts ∙ ap (λ (l : List Terminal). b.before ++ b.here ∷ l) rest) p in
      absurd (omega (arith, e, a.at, b.at, placed_below 0 b.before b.here w a.here a.after placed))

  pub one_stop : ArePlaced 0 (toks ++ end ∷ []) → (s t : Stop) → IsStop f (toks ++ end ∷ []) s → IsStop f (toks ++ end ∷ []) t → s ≡ t
  one_stop p s t x y =
      let a = x.stops in
      let b = y.stops in
      one_by s t p (omega (arith, x.least t b, y.least s a)) a b (split a.before (a.here ∷ a.after) b.before (b.here ∷ b.after) (sym a.parts ∙ b.parts))
