-- Where reading stops: at the first token that begins none.
use Rattle.std.proofs.Common.{◌≡◌, ℕ, zero, suc, ◌<◌, ◌≤◌, Bool, true, false, cond, List, [], ◌∷◌, ◌++◌, length, Option, Some, None, Ok, Err, refl, sym, ap, subst, ◌∙◌, append_assoc, arith, inl, inr, length-append}
use Rattle.std.specs.Prelude.{not, ◌||◌, ◌&&◌, ◌==◌, ◌⊎◌}
use Rattle.std.proofs.lemmas.List.{append-nil}
use Rattle.std.proofs.lemmas.Bool.{eqb-true}
use Rattle.gql_grammar.specs.Form.{Terminal, is_end, Fault, Syntax, Refused, Stop, Read, ◌>>=◌, among, apart, starts, place, Form, one, seq, opt, opt_spells, many_spell, many_from, many_read, many, alt, some, declared, limited, refused, refused_at, ◌<$>◌}
use Rattle.gql_grammar.proofs.Laws.{Lawful, one_lawful, refused_lawful, seq_lawful, opt_lawful, many_lawful, map_lawful, alt_lawful, declared_lawful, limited_lawful, ok_is, shorter, among-append, apart_false, many_one, many_fails, front}

-- with the next token, these begin no spelling
abbrev pub Halts : (List Terminal → Type 0) → List Terminal → List Terminal → Type 0
Halts begins u [] = Unit {0}
Halts begins u (t ∷ rest) = begins (u ++ t ∷ []) → ⊥

-- a syntax fault stands where the tokens go on with none; another one at a token that breaks a limit
abbrev pub Breaks : Fault → (List Terminal → Type 0) → (List Terminal → Terminal → Type 0) → List Terminal → List Terminal → Type 0
Breaks Syntax begins breaks u rest = Halts begins u rest
Breaks (Refused n) begins breaks u [] = ⊥
Breaks (Refused n) begins breaks u (t ∷ rest) = (n ≡ t.sort) × breaks u t

-- the stop at a token that a limit refuses
abbrev pub refused_stop : Terminal → Stop
refused_stop t = record { fault = Refused t.sort; at = t.at }

-- what was read, or how far the tokens began one
abbrev pub Meets : {A : Type 0} → Form A → List Terminal → Read A → Type 0
Meets f ts (Ok x) = (u : List Terminal) × f.spells x.0 u × (ts ≡ u ++ x.1) × Halts f.begins u x.1
Meets f ts (Err s) = (u : List Terminal) × (rest : List Terminal) × f.begins u × (ts ≡ u ++ rest) × (s.at ≡ place rest) × Breaks s.fault f.begins f.breaks u rest

-- no token is the one at the end
abbrev pub no_end : List Terminal → Bool
no_end [] = true
no_end (t ∷ ts) = not (is_end t.sort) && no_end ts

-- no sort is one of the end
abbrev pub no_ends : List ℕ → Bool
no_ends [] = true
no_ends (s ∷ ss) = not (is_end s) && no_ends ss

pub both_true : (a b : Bool) → (a && b) ≡ true → (a ≡ true) × (b ≡ true)
both_true true b e = (refl, e)
both_true false b e = absurd cc

no_end-append : (u v : List Terminal) → no_end u ≡ true → no_end v ≡ true → no_end (u ++ v) ≡ true
no_end-append [] v hu hv = hv
no_end-append (t ∷ u) v hu hv =
    let p = both_true (not (is_end t.sort)) (no_end u) hu in
    let others : no_end (u ++ v) ≡ true = no_end-append u v p.1 hv in
    rw (p.0, others) refl

pub record Exact {A : Type 0} (f : Form A) : Type 0 where
  pub lawful : Lawful f
  -- a spelling begins one, and so does each front of what begins one
  pub begun : (a : A) (u : List Terminal) → f.spells a u → f.begins u
  pub closed : (u v : List Terminal) → f.begins (u ++ v) → f.begins u
  pub nothing : f.begins []
  pub first : (t : Terminal) (ts : List Terminal) → f.begins (t ∷ ts) → among t.sort f.first ≡ true
  pub proper : (u : List Terminal) → f.begins u → no_end u ≡ true
  -- a token that breaks a limit begins one, and is the fault
  pub broken : (u : List Terminal) (t : Terminal) → f.breaks u t → f.begins (u ++ t ∷ [])
  pub refuses : (u : List Terminal) (t : Terminal) (rest : List Terminal) → f.breaks u t → f.read (u ++ t ∷ rest) ≡ Err (refused_stop t)
  -- reading goes exactly as far as the tokens begin one
  pub meets : (ts : List Terminal) → Meets f ts (f.read ts)

-- ---- lists

same_end : (a b c : List Terminal) → a ++ c ≡ b ++ c → a ≡ b
same_end [] [] c e = refl
same_end [] (x ∷ b) c e = absurd (omega (arith, ap length e, length-append b c))
same_end (x ∷ a) [] c e = absurd (omega (arith, ap length e, length-append a c))
same_end (x ∷ a) (y ∷ b) c e =
    let h : x ≡ y = cc in
    let t : a ++ c ≡ b ++ c = cc in
    let r : a ≡ b = same_end a b c t in
    cc

-- ---- one token

not_end : (set : List ℕ) (n : ℕ) → no_ends set ≡ true → among n set ≡ true → not (is_end n) ≡ true
not_end [] n z h = absurd cc
not_end (s ∷ set) n z h =
    let p = both_true (not (is_end s)) (no_ends set) z in
    by_test (n == s) refl p.0 (not_end set n p.1) h
  where
    by_test : (b : Bool) → (n == s) ≡ b → not (is_end s) ≡ true → (among n set ≡ true → not (is_end n) ≡ true) → (b || among n set) ≡ true → not (is_end n) ≡ true
    by_test true e y others h = subst (λ (k : ℕ). not (is_end k) ≡ true) (sym (eqb-true n s e)) y
    by_test false e y others h = others h

pub one_exact : (set : List ℕ) → no_ends set ≡ true → Lawful (one set) → Exact (one set)
one_exact set z lf = record { lawful = lf; begun = λ a u s. inr (a, s.0, s.1); closed = closed; nothing = inl refl; first = first; proper = proper; broken = λ u t b. absurd b; refuses = λ u t rest b. absurd b; meets = meets }
  where
    proper : (u : List Terminal) → (one set).begins u → no_end u ≡ true
    proper u (inl e) = rw e refl
    proper u (inr (t, h, e)) = rw (e, not_end set t.sort z h) refl

    closed : (u v : List Terminal) → (one set).begins (u ++ v) → (one set).begins u
    closed [] v b = inl refl
    closed (x ∷ u) v (inl e) = absurd cc
    closed (x ∷ []) v (inr (t, h, e)) = let same : t ≡ x = cc in inr (x, subst (λ (y : Terminal). among y.sort set ≡ true) same h, refl)
    closed (x ∷ y ∷ u) v (inr (t, h, e)) = absurd cc

    first : (t : Terminal) (ts : List Terminal) → (one set).begins (t ∷ ts) → among t.sort set ≡ true
    first t ts (inl e) = absurd cc
    first t ts (inr (x, h, e)) = let same : x ≡ t = cc in subst (λ (y : Terminal). among y.sort set ≡ true) same h

    longer : (a t : Terminal) → (one set).begins (a ∷ t ∷ []) → ⊥
    longer a t (inl e) = cc
    longer a t (inr (x, h, e)) = cc

    no : (t : Terminal) → among t.sort set ≡ false → (one set).begins (t ∷ []) → ⊥
    no t k (inl e) = cc
    no t k (inr (x, h, e)) = let same : x ≡ t = cc in let h2 : among t.sort set ≡ true = subst (λ (y : Terminal). among y.sort set ≡ true) same h in cc

    halts_after : (a : Terminal) (rest : List Terminal) → Halts (one set).begins (a ∷ []) rest
    halts_after a [] = tt
    halts_after a (t ∷ rest) = longer a t

    by_test : (t : Terminal) (ts : List Terminal) (b : Bool) → among t.sort set ≡ b → Meets (one set) (t ∷ ts) (cond b (Ok (t, ts)) (Err (record { fault = Syntax; at = t.at })))
    by_test t ts true k = (t ∷ [], (k, refl), refl, halts_after t ts)
    by_test t ts false k = ([], t ∷ ts, inl refl, refl, refl, no t k)

    meets : (ts : List Terminal) → Meets (one set) ts ((one set).read ts)
    meets [] = ([], [], inl refl, refl, refl, tt)
    meets (t ∷ ts) = by_test t ts (among t.sort set) refl

-- ---- one form and then another

-- one of two fronts of a list begins the other
pub split : (w v x y : List Terminal) → w ++ v ≡ x ++ y → ((z : List Terminal) × (x ≡ w ++ z)) ⊎ ((z : List Terminal) × (w ≡ x ++ z) × (y ≡ z ++ v))
split [] v x y e = inl (x, refl)
split (a ∷ w) v [] y e = inr (a ∷ w, refl, sym e)
split (a ∷ w) v (b ∷ x) y e =
    let h : a ≡ b = cc in
    let t : w ++ v ≡ x ++ y = cc in
    elim (split w v x y t) [
      | inl p ↦ inl (p.0, (let q : x ≡ w ++ p.0 = p.1 in cc))
      | inr p ↦ inr (p.0, (let q : w ≡ x ++ p.0 = p.1 in cc), p.2)
    ]

-- what begins a first form and then more
abbrev pub Then : {A : Type 0} → Form A → (List Terminal → Type 0) → List Terminal → Type 0
Then {A} f more ts = f.begins ts ⊎ ((a : A) × (u : List Terminal) × (v : List Terminal) × f.spells a u × more v × (ts ≡ u ++ v))

-- what breaks a limit of a first form, or of more after it
abbrev pub ThenBreaks : {A : Type 0} → Form A → (List Terminal → Terminal → Type 0) → List Terminal → Terminal → Type 0
ThenBreaks {A} f more ts t = f.breaks ts t ⊎ ((a : A) × (u : List Terminal) × (v : List Terminal) × f.spells a u × more v t × (ts ≡ u ++ v))

-- tokens that break a limit of a form begin with a first sort of it
broken_starts : {B : Type 0} (g : Form B) (eg : Exact g) (v : List Terminal) (t : Terminal) (rest : List Terminal) → g.breaks v t → starts g.first (v ++ t ∷ rest) ≡ true
broken_starts g eg [] t rest b = eg.first t [] (eg.broken [] t b)
broken_starts g eg (x ∷ v) t rest b = eg.first x (v ++ t ∷ []) (eg.broken (x ∷ v) t b)

broken_apart : {B : Type 0} (g : Form B) (eg : Exact g) (set : List ℕ) (ll : apart g.first set ≡ true) (v : List Terminal) (t : Terminal) (rest : List Terminal) → g.breaks v t → starts set (v ++ t ∷ rest) ≡ false
broken_apart g eg set ll [] t rest b = apart_false t.sort g.first set ll (eg.first t [] (eg.broken [] t b))
broken_apart g eg set ll (x ∷ v) t rest b = apart_false x.sort g.first set ll (eg.first x (v ++ t ∷ []) (eg.broken (x ∷ v) t b))

module _ {A : Type 0} (f : Form A) (ef : Exact f) (more : List Terminal → Type 0) (more_breaks : List Terminal → Terminal → Type 0) (set : List ℕ) (first : (t : Terminal) (ts : List Terminal) → more (t ∷ ts) → among t.sort set ≡ true) (ll : apart set f.more ≡ true) where
  then_closed : (closed : (u v : List Terminal) → more (u ++ v) → more u) (w v : List Terminal) → Then f more (w ++ v) → Then f more w
  then_closed closed w v (inl b) = inl (ef.closed w v b)
  then_closed closed w v (inr (a, x, y, sx, by, e)) = elim (split w v x y e) [
    | inl p ↦ inl (ef.closed w p.0 (subst f.begins p.1 (ef.begun a x sx)))
    | inr p ↦ inr (a, x, p.0, sx, closed p.0 v (subst more p.2 by), p.1)
  ]

  -- what begins the second does not go on with the first
  behind : (a : A) (x : List Terminal) (h : Terminal) (y tail : List Terminal) → f.spells a x → more (h ∷ y) → f.read (x ++ ((h ∷ y) ++ tail)) ≡ Ok (a, (h ∷ y) ++ tail)
  behind a x h y tail sx by = ef.lawful.only a x ((h ∷ y) ++ tail) sx (apart_false h.sort set f.more ll (first h y by))

  after_first : (ts u rest : List Terminal) (s : Stop) → ts ≡ u ++ rest → f.read ts ≡ Err s → Halts f.begins u rest → Halts (Then f more) u rest
  after_first ts u [] s e r halt = tt
  after_first ts u (t ∷ tail) s e r halt = no
    where
      no : Then f more (u ++ t ∷ []) → ⊥
      no (inl b) = halt b
      no (inr (a, x, [], sx, by, e2)) = halt (subst f.begins (sym (append-nil x) ∙ sym e2) (ef.begun a x sx))
      no (inr (a, x, h ∷ y, sx, by, e2)) =
          let whole : ts ≡ x ++ ((h ∷ y) ++ tail) = e ∙ sym (append_assoc u (t ∷ []) tail) ∙ ap (λ (l : List Terminal). l ++ tail) e2 ∙ append_assoc x (h ∷ y) tail in
          let ok : f.read ts ≡ Ok (a, (h ∷ y) ++ tail) = rw whole (behind a x h y tail sx by) in
          cc

  breaks_first : (k : Fault) (ts u rest : List Terminal) (s : Stop) → ts ≡ u ++ rest → f.read ts ≡ Err s → Breaks k f.begins f.breaks u rest → Breaks k (Then f more) (ThenBreaks f more_breaks) u rest
  breaks_first Syntax ts u rest s e r b = after_first ts u rest s e r b
  breaks_first (Refused n) ts u [] s e r b = b
  breaks_first (Refused n) ts u (t ∷ rest) s e r b = (b.0, inl b.1)

  first_longer : (u v : List Terminal) (t : Terminal) (tail : List Terminal) → Halts f.begins u (v ++ t ∷ tail) → f.begins ((u ++ v) ++ t ∷ []) → ⊥
  first_longer u [] t tail halt b = halt (subst (λ (l : List Terminal). f.begins (l ++ t ∷ [])) (append-nil u) b)
  first_longer u (h ∷ v) t tail halt b =
      let same : (u ++ (h ∷ v)) ++ t ∷ [] ≡ (u ++ h ∷ []) ++ (v ++ t ∷ []) = append_assoc u (h ∷ v) (t ∷ []) ∙ sym (append_assoc u (h ∷ []) (v ++ t ∷ [])) in
      halt (ef.closed (u ++ h ∷ []) (v ++ t ∷ []) (subst f.begins same b))

  after_second : (ts : List Terminal) (a : A) (u v rest : List Terminal) → ts ≡ u ++ (v ++ rest) → f.read ts ≡ Ok (a, v ++ rest) → Halts f.begins u (v ++ rest) → Halts more v rest → Halts (Then f more) (u ++ v) rest
  after_second ts a u v [] e r halt halt2 = tt
  after_second ts a u v (t ∷ tail) e r halt halt2 = no
    where
      no : Then f more ((u ++ v) ++ t ∷ []) → ⊥
      no (inl b) = first_longer u v t tail halt b
      no (inr (a2, x, [], sx, by, e2)) = first_longer u v t tail halt (subst f.begins (sym (append-nil x) ∙ sym e2) (ef.begun a2 x sx))
      no (inr (a2, x, h ∷ y, sx, by, e2)) =
          let whole : ts ≡ x ++ ((h ∷ y) ++ tail) = e ∙ sym (append_assoc u v (t ∷ tail)) ∙ sym (append_assoc (u ++ v) (t ∷ []) tail) ∙ ap (λ (l : List Terminal). l ++ tail) e2 ∙ append_assoc x (h ∷ y) tail in
          let ok : f.read ts ≡ Ok (a2, (h ∷ y) ++ tail) = rw whole (behind a2 x h y tail sx by) in
          let made : A × List Terminal = (a2, (h ∷ y) ++ tail) in
          let pair : made ≡ (a, v ++ t ∷ tail) = ok_is made (a, v ++ t ∷ tail) (sym ok ∙ r) in
          let ends : (h ∷ y) ++ tail ≡ (v ++ t ∷ []) ++ tail = ap (λ (p : A × List Terminal). p.1) pair ∙ sym (append_assoc v (t ∷ []) tail) in
          halt2 (subst more (same_end (h ∷ y) (v ++ t ∷ []) tail ends) by)

  breaks_second : (k : Fault) (ts : List Terminal) (a : A) (u v rest : List Terminal) → f.spells a u → ts ≡ u ++ (v ++ rest) → f.read ts ≡ Ok (a, v ++ rest) → Halts f.begins u (v ++ rest) → Breaks k more more_breaks v rest → Breaks k (Then f more) (ThenBreaks f more_breaks) (u ++ v) rest
  breaks_second Syntax ts a u v rest su e r halt b = after_second ts a u v rest e r halt b
  breaks_second (Refused n) ts a u v [] su e r halt b = b
  breaks_second (Refused n) ts a u v (t ∷ rest) su e r halt b = (b.0, inr (a, u, v, su, b.1, refl))

module _ {A B : Type 0} (f : Form A) (g : Form B) (ef : Exact f) (eg : Exact g) (ll : apart g.first f.more ≡ true) (lf : Lawful (seq f g)) where
  left_first : (b : Bool) (t : Terminal) → among t.sort f.first ≡ true → among t.sort (cond b (f.first ++ g.first) f.first) ≡ true
  left_first true t h = among-append t.sort f.first g.first ∙ rw h refl
  left_first false t h = h

  either_true : (a b : Bool) → b ≡ true → (a || b) ≡ true
  either_true true b e = refl
  either_true false b e = e

  seq_first : (t : Terminal) (ts : List Terminal) → (seq f g).begins (t ∷ ts) → among t.sort (seq f g).first ≡ true
  seq_first t ts (inl b) = left_first f.empty t (ef.first t ts b)
  seq_first t ts (inr (a, x, y, sx, by, e)) = both x y sx by e
    where
      both : (x y : List Terminal) → f.spells a x → g.begins y → t ∷ ts ≡ x ++ y → among t.sort (seq f g).first ≡ true
      both [] [] sx by e = absurd cc
      both [] (h ∷ y) sx by e =
          let same : h ≡ t = cc in
          let k : among t.sort g.first ≡ true = subst (λ (z : Terminal). among z.sort g.first ≡ true) same (eg.first h y by) in
          rw (ef.lawful.empties a sx) (among-append t.sort f.first g.first ∙ either_true (among t.sort f.first) (among t.sort g.first) k)
      both (h ∷ x) y sx by e =
          let same : h ≡ t = cc in
          left_first f.empty t (subst (λ (z : Terminal). among z.sort f.first ≡ true) same (ef.lawful.firsts a h x sx))

  seq_meets : (ts : List Terminal) → Meets (seq f g) ts ((seq f g).read ts)
  seq_meets ts = by_first (f.read ts) refl (ef.meets ts)
    where
      by_second : (a : A) (rest : List Terminal) (u : List Terminal) → f.read ts ≡ Ok (a, rest) → f.spells a u → ts ≡ u ++ rest → Halts f.begins u rest → (r : Read B) → Meets g rest r → Meets (seq f g) ts (r >>= λ y. Ok ((a, y.0), y.1))
      by_second a rest u e su parts halt (Ok y) (v, sv, parts2, halt2) =
          let all : ts ≡ u ++ (v ++ y.1) = parts ∙ ap (λ (l : List Terminal). u ++ l) parts2 in
          (u ++ v, (u, v, su, sv, refl), all ∙ sym (append_assoc u v y.1), after_second f ef g.begins g.breaks g.first eg.first ll ts a u v y.1 all (rw (← parts2) e) (subst (Halts f.begins u) parts2 halt) halt2)
      by_second a rest u e su parts halt (Err s) (v, left, bv, parts2, at, b) =
          let all : ts ≡ u ++ (v ++ left) = parts ∙ ap (λ (l : List Terminal). u ++ l) parts2 in
          (u ++ v, left, inr (a, u, v, su, bv, refl), all ∙ sym (append_assoc u v left), at, breaks_second f ef g.begins g.breaks g.first eg.first ll s.fault ts a u v left su all (rw (← parts2) e) (subst (Halts f.begins u) parts2 halt) b)

      by_first : (r : Read A) → f.read ts ≡ r → Meets f ts r → Meets (seq f g) ts (r >>= λ x. g.read x.1 >>= λ y. Ok ((x.0, y.0), y.1))
      by_first (Ok x) e (u, su, parts, halt) = by_second x.0 x.1 u e su parts halt (g.read x.1) (eg.meets x.1)
      by_first (Err s) e (u, rest, bu, parts, at, b) = (u, rest, inl bu, parts, at, breaks_first f ef g.begins g.breaks g.first eg.first ll s.fault ts u rest s parts e b)

  seq_proper : (w : List Terminal) → (seq f g).begins w → no_end w ≡ true
  seq_proper w (inl b) = ef.proper w b
  seq_proper w (inr (a, u, v, su, bv, e)) = rw e (no_end-append u v (ef.proper u (ef.begun a u su)) (eg.proper v bv))

  seq_broken : (w : List Terminal) (t : Terminal) → (seq f g).breaks w t → (seq f g).begins (w ++ t ∷ [])
  seq_broken w t (inl b) = inl (ef.broken w t b)
  seq_broken w t (inr (a, u, v, su, bv, e)) = inr (a, u, v ++ t ∷ [], su, eg.broken v t bv, ap (λ (l : List Terminal). l ++ t ∷ []) e ∙ append_assoc u v (t ∷ []))

  seq_refuses : (w : List Terminal) (t : Terminal) (rest : List Terminal) → (seq f g).breaks w t → (seq f g).read (w ++ t ∷ rest) ≡ Err (refused_stop t)
  seq_refuses w t rest (inl b) = rw (ef.refuses w t rest b) refl
  seq_refuses w t rest (inr (a, u, v, su, bv, e)) =
      let first : f.read (u ++ (v ++ t ∷ rest)) ≡ Ok (a, v ++ t ∷ rest) = ef.lawful.only a u (v ++ t ∷ rest) su (broken_apart g eg f.more ll v t rest bv) in
      let second : g.read (v ++ t ∷ rest) ≡ Err (refused_stop t) = eg.refuses v t rest bv in
      rw (e, append_assoc u v (t ∷ rest), first, second) refl

  pub seq_exact : Exact (seq f g)
  seq_exact = record {
    lawful = lf;
    begun = λ p w s. inr (p.0, s.0, s.1, s.2, eg.begun p.1 s.1 s.3, s.4);
    closed = then_closed f ef g.begins g.breaks g.first eg.first ll eg.closed;
    nothing = inl ef.nothing;
    first = seq_first;
    proper = seq_proper;
    broken = seq_broken;
    refuses = seq_refuses;
    meets = seq_meets;
  }

-- ---- the same tokens for another value, and the same form with its sorts written out

pub map_exact : {A B : Type 0} (h : A → B) (f : Form A) → Exact f → Lawful (h <$> f) → Exact (h <$> f)
map_exact {A} {B} h f ef lf = record {
  lawful = lf;
  begun = λ b u s. ef.begun s.0 u s.1;
  closed = ef.closed;
  nothing = ef.nothing;
  first = ef.first;
  proper = ef.proper;
  broken = ef.broken;
  refuses = λ u t rest b. rw (ef.refuses u t rest b) refl;
  meets = λ ts. meets ts (f.read ts) (ef.meets ts);
}
  where
    meets : (ts : List Terminal) (r : Read A) → Meets f ts r → Meets (h <$> f) ts (r >>= λ x. Ok (h x.0, x.1))
    meets ts (Ok x) (u, su, parts, halt) = (u, (x.0, su, refl), parts, halt)
    meets ts (Err s) (u, rest, bu, parts, at, b) = (u, rest, bu, parts, at, b)

pub declared_exact : {A : Type 0} (first more : List ℕ) (empty : Bool) (f : Form A) → Exact f → f.first ≡ first → Lawful (declared first more empty f) → Exact (declared first more empty f)
declared_exact {A} first more empty f ef e lf = record {
  lawful = lf;
  begun = ef.begun;
  closed = ef.closed;
  nothing = ef.nothing;
  first = λ t ts b. rw (← e) (ef.first t ts b);
  proper = ef.proper;
  broken = ef.broken;
  refuses = ef.refuses;
  meets = λ ts. meets ts (f.read ts) (ef.meets ts);
}
  where
    meets : (ts : List Terminal) (r : Read A) → Meets f ts r → Meets (declared first more empty f) ts r
    meets ts (Ok x) m = m
    meets ts (Err s) m = m

-- the limit may be said in other words of the same meaning
pub limited_exact : {A : Type 0} (breaks : List Terminal → Terminal → Type 0) (f : Form A) → Exact f → ((u : List Terminal) (t : Terminal) → f.breaks u t → breaks u t) → ((u : List Terminal) (t : Terminal) → breaks u t → f.breaks u t) → Lawful (limited breaks f) → Exact (limited breaks f)
limited_exact {A} breaks f ef to from lf = record {
  lawful = lf;
  begun = ef.begun;
  closed = ef.closed;
  nothing = ef.nothing;
  first = ef.first;
  proper = ef.proper;
  broken = λ u t b. ef.broken u t (from u t b);
  refuses = λ u t rest b. ef.refuses u t rest (from u t b);
  meets = λ ts. meets ts (f.read ts) (ef.meets ts);
}
  where
    in_words : (k : Fault) (u rest : List Terminal) → Breaks k f.begins f.breaks u rest → Breaks k f.begins breaks u rest
    in_words Syntax u rest b = b
    in_words (Refused n) u [] b = b
    in_words (Refused n) u (t ∷ rest) b = (b.0, to u t b.1)

    meets : (ts : List Terminal) (r : Read A) → Meets f ts r → Meets (limited breaks f) ts r
    meets ts (Ok x) m = m
    meets ts (Err s) (u, rest, bu, parts, at, b) = (u, rest, bu, parts, at, in_words s.fault u rest b)

-- ---- a form or nothing, and one form or another

not_starting : {A : Type 0} (f : Form A) (ef : Exact f) (ts : List Terminal) → starts f.first ts ≡ false → Halts f.begins [] ts
not_starting f ef [] k = tt
not_starting f ef (t ∷ ts) k = λ b. let h = ef.first t [] b in cc

pub opt_exact : {A : Type 0} (f : Form A) → Exact f → Lawful (opt f) → Exact (opt f)
opt_exact {A} f ef lf = record {
  lawful = lf;
  begun = begun;
  closed = ef.closed;
  nothing = ef.nothing;
  first = ef.first;
  proper = ef.proper;
  broken = ef.broken;
  refuses = λ u t rest b. rw (broken_starts f ef u t rest b, ef.refuses u t rest b) refl;
  meets = λ ts. by_test ts (starts f.first ts) refl;
}
  where
    begun : (o : Option A) (u : List Terminal) → opt_spells f.spells o u → f.begins u
    begun None u s = subst f.begins (sym s) ef.nothing
    begun (Some a) u s = ef.begun a u s

    by_read : (ts : List Terminal) (r : Read A) → Meets f ts r → Meets (opt f) ts (r >>= λ x. Ok (Some x.0, x.1))
    by_read ts (Ok x) (u, su, parts, halt) = (u, su, parts, halt)
    by_read ts (Err s) (u, rest, bu, parts, at, b) = (u, rest, bu, parts, at, b)

    by_test : (ts : List Terminal) (b : Bool) → starts f.first ts ≡ b → Meets (opt f) ts (cond b (f.read ts >>= λ x. Ok (Some x.0, x.1)) (Ok (None, ts)))
    by_test ts true k = by_read ts (f.read ts) (ef.meets ts)
    by_test ts false k = ([], refl, refl, not_starting f ef ts k)

-- what begins with a token of one set begins no form of another
other : {A : Type 0} (g : Form A) (eg : Exact g) (set : List ℕ) (ll : apart g.first set ≡ true) (ts u : List Terminal) (t : Terminal) (rest : List Terminal) → starts set ts ≡ true → ts ≡ u ++ t ∷ rest → g.begins (u ++ t ∷ []) → ⊥
other g eg set ll ts [] t rest k e b =
    let h = apart_false t.sort g.first set ll (eg.first t [] b) in
    let k2 : among t.sort set ≡ true = subst (λ (l : List Terminal). starts set l ≡ true) e k in
    cc
other g eg set ll ts (x ∷ u) t rest k e b =
    let h = apart_false x.sort g.first set ll (eg.first x (u ++ t ∷ []) b) in
    let k2 : among x.sort set ≡ true = subst (λ (l : List Terminal). starts set l ≡ true) e k in
    cc

not_other : {A : Type 0} (f : Form A) (ef : Exact f) (ts u : List Terminal) (t : Terminal) (rest : List Terminal) → starts f.first ts ≡ false → ts ≡ u ++ t ∷ rest → f.begins (u ++ t ∷ []) → ⊥
not_other f ef ts [] t rest k e b =
    let h = ef.first t [] b in
    let k2 : among t.sort f.first ≡ false = subst (λ (l : List Terminal). starts f.first l ≡ false) e k in
    cc
not_other f ef ts (x ∷ u) t rest k e b =
    let h = ef.first x (u ++ t ∷ []) b in
    let k2 : among x.sort f.first ≡ false = subst (λ (l : List Terminal). starts f.first l ≡ false) e k in
    cc

module _ {A : Type 0} (f g : Form A) (ef : Exact f) (eg : Exact g) (ll : apart g.first f.first ≡ true) (lf : Lawful (alt f g)) where
  halts_left : (ts u rest : List Terminal) → starts f.first ts ≡ true → ts ≡ u ++ rest → Halts f.begins u rest → Halts (alt f g).begins u rest
  halts_left ts u [] k e halt = tt
  halts_left ts u (t ∷ rest) k e halt = no
    where
      no : (alt f g).begins (u ++ t ∷ []) → ⊥
      no (inl b) = halt b
      no (inr b) = other g eg f.first ll ts u t rest k e b

  halts_right : (ts u rest : List Terminal) → starts f.first ts ≡ false → ts ≡ u ++ rest → Halts g.begins u rest → Halts (alt f g).begins u rest
  halts_right ts u [] k e halt = tt
  halts_right ts u (t ∷ rest) k e halt = no
    where
      no : (alt f g).begins (u ++ t ∷ []) → ⊥
      no (inl b) = not_other f ef ts u t rest k e b
      no (inr b) = halt b

  breaks_left : (k : Fault) (ts u rest : List Terminal) → starts f.first ts ≡ true → ts ≡ u ++ rest → Breaks k f.begins f.breaks u rest → Breaks k (alt f g).begins (alt f g).breaks u rest
  breaks_left Syntax ts u rest s e b = halts_left ts u rest s e b
  breaks_left (Refused n) ts u [] s e b = b
  breaks_left (Refused n) ts u (t ∷ rest) s e b = (b.0, inl b.1)

  breaks_right : (k : Fault) (ts u rest : List Terminal) → starts f.first ts ≡ false → ts ≡ u ++ rest → Breaks k g.begins g.breaks u rest → Breaks k (alt f g).begins (alt f g).breaks u rest
  breaks_right Syntax ts u rest s e b = halts_right ts u rest s e b
  breaks_right (Refused n) ts u [] s e b = b
  breaks_right (Refused n) ts u (t ∷ rest) s e b = (b.0, inr b.1)

  alt_left : (ts : List Terminal) → starts f.first ts ≡ true → (r : Read A) → Meets f ts r → Meets (alt f g) ts r
  alt_left ts k (Ok x) (u, su, parts, halt) = (u, inl su, parts, halts_left ts u x.1 k parts halt)
  alt_left ts k (Err s) (u, rest, bu, parts, at, b) = (u, rest, inl bu, parts, at, breaks_left s.fault ts u rest k parts b)

  alt_right : (ts : List Terminal) → starts f.first ts ≡ false → (r : Read A) → Meets g ts r → Meets (alt f g) ts r
  alt_right ts k (Ok x) (u, su, parts, halt) = (u, inr su, parts, halts_right ts u x.1 k parts halt)
  alt_right ts k (Err s) (u, rest, bu, parts, at, b) = (u, rest, inr bu, parts, at, breaks_right s.fault ts u rest k parts b)

  alt_test : (ts : List Terminal) (b : Bool) → starts f.first ts ≡ b → Meets (alt f g) ts (cond b (f.read ts) (g.read ts))
  alt_test ts true k = alt_left ts k (f.read ts) (ef.meets ts)
  alt_test ts false k = alt_right ts k (g.read ts) (eg.meets ts)

  alt_begun : (a : A) (u : List Terminal) → (alt f g).spells a u → (alt f g).begins u
  alt_begun a u (inl s) = inl (ef.begun a u s)
  alt_begun a u (inr s) = inr (eg.begun a u s)

  alt_closed : (u v : List Terminal) → (alt f g).begins (u ++ v) → (alt f g).begins u
  alt_closed u v (inl b) = inl (ef.closed u v b)
  alt_closed u v (inr b) = inr (eg.closed u v b)

  alt_first : (t : Terminal) (ts : List Terminal) → (alt f g).begins (t ∷ ts) → among t.sort (f.first ++ g.first) ≡ true
  alt_first t ts (inl b) = among-append t.sort f.first g.first ∙ rw (ef.first t ts b) refl
  alt_first t ts (inr b) = among-append t.sort f.first g.first ∙ right (among t.sort f.first) (eg.first t ts b)
    where
      right : (a : Bool) → among t.sort g.first ≡ true → (a || among t.sort g.first) ≡ true
      right true h = refl
      right false h = h

  alt_proper : (u : List Terminal) → (alt f g).begins u → no_end u ≡ true
  alt_proper u (inl b) = ef.proper u b
  alt_proper u (inr b) = eg.proper u b

  alt_broken : (u : List Terminal) (t : Terminal) → (alt f g).breaks u t → (alt f g).begins (u ++ t ∷ [])
  alt_broken u t (inl b) = inl (ef.broken u t b)
  alt_broken u t (inr b) = inr (eg.broken u t b)

  alt_refuses : (u : List Terminal) (t : Terminal) (rest : List Terminal) → (alt f g).breaks u t → (alt f g).read (u ++ t ∷ rest) ≡ Err (refused_stop t)
  alt_refuses u t rest (inl b) = rw (broken_starts f ef u t rest b) (ef.refuses u t rest b)
  alt_refuses u t rest (inr b) = rw (broken_apart g eg f.first ll u t rest b) (eg.refuses u t rest b)

  pub alt_exact : Exact (alt f g)
  alt_exact = record { lawful = lf; begun = alt_begun; closed = alt_closed; nothing = inl ef.nothing; first = alt_first; proper = alt_proper; broken = alt_broken; refuses = alt_refuses; meets = λ ts. alt_test ts (starts f.first ts) refl }

-- ---- a token that a limit refuses

pub refused_exact : {A : Type 0} (set : List ℕ) → no_ends set ≡ true → Lawful (refused {A = A} set) → Exact (refused {A = A} set)
refused_exact {A} set z lf = record { lawful = lf; begun = λ a u s. absurd s; closed = inner.closed; nothing = inl refl; first = inner.first; proper = inner.proper; broken = broken; refuses = refuses; meets = meets }
  where
    inner : Exact (one set)
    inner = one_exact set z (one_lawful set)

    broken : (u : List Terminal) (t : Terminal) → (refused {A = A} set).breaks u t → (refused {A = A} set).begins (u ++ t ∷ [])
    broken u t (e, k) = inr (t, k, ap (λ (l : List Terminal). l ++ t ∷ []) e)

    refuses : (u : List Terminal) (t : Terminal) (rest : List Terminal) → (refused {A = A} set).breaks u t → refused_at {A = A} set (u ++ t ∷ rest) ≡ Err (refused_stop t)
    refuses u t rest (e, k) = rw (e, k) refl

    no : (t : Terminal) → among t.sort set ≡ false → (one set).begins (t ∷ []) → ⊥
    no t k b = let h = inner.first t [] b in cc

    by_test : (t : Terminal) (ts : List Terminal) (b : Bool) → among t.sort set ≡ b → Meets (refused {A = A} set) (t ∷ ts) (Err (record { fault = cond b (Refused t.sort) Syntax; at = t.at }))
    by_test t ts true k = ([], t ∷ ts, inl refl, refl, refl, (refl, (refl, k)))
    by_test t ts false k = ([], t ∷ ts, inl refl, refl, refl, no t k)

    meets : (ts : List Terminal) → Meets (refused {A = A} set) ts (refused_at set ts)
    meets [] = ([], [], inl refl, refl, refl, tt)
    meets (t ∷ ts) = by_test t ts (among t.sort set) refl

-- ---- any number of one form

module _ {A : Type 0} (f : Form A) (ef : Exact f) (solid : f.empty ≡ false) (ll : apart f.first f.more ≡ true) (lf : Lawful (many f)) where
  to_then : (ts : List Terminal) → (many f).begins ts → Then f (many f).begins ts
  to_then ts ([], u, v, su, bv, e) = inl (subst f.begins (sym (e ∙ ap (λ (l : List Terminal). l ++ v) su)) bv)
  to_then ts (a ∷ all, u, v, (u1, u2, s1, s2, eu), bv, e) =
      inr (a, u1, u2 ++ v, s1, (all, u2, v, s2, bv, refl), e ∙ ap (λ (l : List Terminal). l ++ v) eu ∙ append_assoc u1 u2 v)

  from_then : (ts : List Terminal) → Then f (many f).begins ts → (many f).begins ts
  from_then ts (inl b) = ([], [], ts, refl, b, refl)
  from_then ts (inr (a, u, v, su, (all, x, y, sx, by, e2), e)) =
      (a ∷ all, u ++ x, y, (u, x, su, sx, refl), by, e ∙ ap (λ (l : List Terminal). u ++ l) e2 ∙ sym (append_assoc u x y))

  many_first : (t : Terminal) (ts : List Terminal) → (many f).begins (t ∷ ts) → among t.sort f.first ≡ true
  many_first t ts ([], u, v, su, bv, e) = ef.first t ts (subst f.begins (sym (e ∙ ap (λ (l : List Terminal). l ++ v) su)) bv)
  many_first t ts (a ∷ all, [], v, s, bv, e) = ef.first t ts (subst f.begins (sym e) bv)
  many_first t ts (a ∷ all, x ∷ u, v, s, bv, e) =
      let same : x ≡ t = cc in
      subst (λ (z : Terminal). among z.sort f.first ≡ true) same (lf.firsts (a ∷ all) x u s)

  closed_by : (all : List A) (w v u y : List Terminal) → many_spell f.spells all u → f.begins y → w ++ v ≡ u ++ y → (many f).begins w
  closed_by [] w v u y su by e =
      ([], [], w, refl, ef.closed w v (subst f.begins (sym (e ∙ ap (λ (l : List Terminal). l ++ y) su)) by), refl)
  closed_by (a ∷ all) w v u y (u1, u2, s1, s2, eu) by e =
      let e2 : w ++ v ≡ u1 ++ (u2 ++ y) = e ∙ ap (λ (l : List Terminal). l ++ y) eu ∙ append_assoc u1 u2 y in
      elim (split w v u1 (u2 ++ y) e2) [
        | inl p ↦ ([], [], w, refl, ef.closed w p.0 (subst f.begins p.1 (ef.begun a u1 s1)), refl)
        | inr p ↦ from_then w (inr (a, u1, p.0, s1, closed_by all p.0 v u2 y s2 by (sym p.2), p.1))
      ]

  many_begun : (all : List A) (u : List Terminal) → many_spell f.spells all u → (many f).begins u
  many_begun all u s = (all, u, [], s, ef.nothing, sym (append-nil u))

  halts_many : (u rest : List Terminal) → Halts (Then f (many f).begins) u rest → Halts (many f).begins u rest
  halts_many u [] h = tt
  halts_many u (t ∷ rest) h = λ b. h (to_then (u ++ t ∷ []) b)

  many_breaks_to : (ts : List Terminal) (t : Terminal) → ThenBreaks f (many f).breaks ts t → (many f).breaks ts t
  many_breaks_to ts t (inl b) = ([], [], ts, refl, b, refl)
  many_breaks_to ts t (inr (a, u, v, su, (all, x, y, sx, by, e2), e)) =
      (a ∷ all, u ++ x, y, (u, x, su, sx, refl), by, e ∙ ap (λ (l : List Terminal). u ++ l) e2 ∙ sym (append_assoc u x y))

  breaks_many : (k : Fault) (u rest : List Terminal) → Breaks k (Then f (many f).begins) (ThenBreaks f (many f).breaks) u rest → Breaks k (many f).begins (many f).breaks u rest
  breaks_many Syntax u rest b = halts_many u rest b
  breaks_many (Refused n) u [] b = b
  breaks_many (Refused n) u (t ∷ rest) b = (b.0, many_breaks_to u t b.1)

  many_broken : (ts : List Terminal) (t : Terminal) → (many f).breaks ts t → (many f).begins (ts ++ t ∷ [])
  many_broken ts t (all, u, v, su, bv, e) = (all, u, v ++ t ∷ [], su, ef.broken v t bv, ap (λ (l : List Terminal). l ++ t ∷ []) e ∙ append_assoc u v (t ∷ []))

  -- after whole ones comes another, or the token that breaks a limit
  goes_apart : (all : List A) (u v : List Terminal) (t : Terminal) (rest : List Terminal) → many_spell f.spells all u → f.breaks v t → starts f.more (u ++ (v ++ t ∷ rest)) ≡ false
  goes_apart all [] v t rest s b = broken_apart f ef f.more ll v t rest b
  goes_apart all (x ∷ u) v t rest s b = apart_false x.sort f.first f.more ll (lf.firsts all x u s)

  refuses_by : (all : List A) (u v : List Terminal) (t : Terminal) (rest : List Terminal) → many_spell f.spells all u → f.breaks v t → many_read f.first f.read (u ++ (v ++ t ∷ rest)) ≡ Err (refused_stop t)
  refuses_by [] u v t rest s b = rw s (many_fails f.first f.read (shorter f ef.lawful solid) (v ++ t ∷ rest) (refused_stop t) (broken_starts f ef v t rest b) (ef.refuses v t rest b))
  refuses_by (a ∷ all) u v t rest (x, y, sx, sy, e) b =
      let tail : List Terminal = y ++ (v ++ t ∷ rest) in
      let one : f.read (x ++ tail) ≡ Ok (a, tail) = ef.lawful.only a x tail sx (goes_apart all y v t rest sy b) in
      let others : many_read f.first f.read tail ≡ Err (refused_stop t) = refuses_by all y v t rest sy b in
      let go : many_read f.first f.read (x ++ tail) ≡ front (a ∷ []) (many_read f.first f.read tail) = many_one f.first f.read (shorter f ef.lawful solid) (x ++ tail) a tail (spelled_starts a x tail sx) one in
      rw (e, append_assoc x y (v ++ t ∷ rest)) (go ∙ ap (front (a ∷ [])) others)
    where
      spelled_starts : (a : A) (x rest : List Terminal) → f.spells a x → starts f.first (x ++ rest) ≡ true
      spelled_starts a [] rest s = let e = ef.lawful.empties a s in absurd cc
      spelled_starts a (h ∷ x) rest s = ef.lawful.firsts a h x s

  many_refuses : (ts : List Terminal) (t : Terminal) (rest : List Terminal) → (many f).breaks ts t → (many f).read (ts ++ t ∷ rest) ≡ Err (refused_stop t)
  many_refuses ts t rest (all, u, v, su, bv, e) = rw (e, append_assoc u v (t ∷ rest)) (refuses_by all u v t rest su bv)

  many_not : (ts : List Terminal) → starts f.first ts ≡ false → Halts (many f).begins [] ts
  many_not [] k = tt
  many_not (t ∷ ts) k = λ b. let h = many_first t [] b in cc

  by_others : (ts : List Terminal) (a : A) (rest u : List Terminal) → f.read ts ≡ Ok (a, rest) → f.spells a u → ts ≡ u ++ rest → Halts f.begins u rest → (r : Read (List A)) → Meets (many f) rest r → Meets (many f) ts (r >>= λ y. Ok (a ∷ y.0, y.1))
  by_others ts a rest u e su parts halt (Ok y) (v, sv, parts2, halt2) =
      let all : ts ≡ u ++ (v ++ y.1) = parts ∙ ap (λ (l : List Terminal). u ++ l) parts2 in
      (u ++ v, (u, v, su, sv, refl), all ∙ sym (append_assoc u v y.1), halts_many (u ++ v) y.1 (after_second f ef (many f).begins (many f).breaks f.first many_first ll ts a u v y.1 all (rw (← parts2) e) (subst (Halts f.begins u) parts2 halt) halt2))
  by_others ts a rest u e su parts halt (Err s) (v, left, bv, parts2, at, b) =
      let all : ts ≡ u ++ (v ++ left) = parts ∙ ap (λ (l : List Terminal). u ++ l) parts2 in
      (u ++ v, left, from_then (u ++ v) (inr (a, u, v, su, bv, refl)), all ∙ sym (append_assoc u v left), at, breaks_many s.fault (u ++ v) left (breaks_second f ef (many f).begins (many f).breaks f.first many_first ll s.fault ts a u v left su all (rw (← parts2) e) (subst (Halts f.begins u) parts2 halt) b))

  by_one : (ts : List Terminal) (n : ℕ) (rec : (rest : List Terminal) → length rest < length ts → Meets (many f) rest (many_from f.first f.read n rest)) (r : Read A) → f.read ts ≡ r → Meets f ts r → Meets (many f) ts (r >>= λ x. many_from f.first f.read n x.1 >>= λ y. Ok (x.0 ∷ y.0, y.1))
  by_one ts n rec (Ok x) e (u, su, parts, halt) = by_others ts x.0 x.1 u e su parts halt (many_from f.first f.read n x.1) (rec x.1 (shorter f ef.lawful solid ts x.0 x.1 e))
  by_one ts n rec (Err s) e (u, rest, bu, parts, at, b) = (u, rest, from_then u (inl bu), parts, at, breaks_many s.fault u rest (breaks_first f ef (many f).begins (many f).breaks f.first many_first ll s.fault ts u rest s parts e b))

  by_start : (ts : List Terminal) (n : ℕ) (rec : (rest : List Terminal) → length rest < length ts → Meets (many f) rest (many_from f.first f.read n rest)) (b : Bool) → starts f.first ts ≡ b → Meets (many f) ts (cond b (f.read ts >>= λ x. many_from f.first f.read n x.1 >>= λ y. Ok (x.0 ∷ y.0, y.1)) (Ok ([], ts)))
  by_start ts n rec true k = by_one ts n rec (f.read ts) refl (ef.meets ts)
  by_start ts n rec false k = ([], refl, refl, many_not ts k)

  many_meets : (n : ℕ) (ts : List Terminal) → length ts ≤ n → Meets (many f) ts (many_from f.first f.read n ts)
  many_meets zero [] le = ([], refl, refl, tt)
  many_meets zero (t ∷ ts) le = absurd (omega arith)
  many_meets (suc n) ts le = by_start ts n (λ rest lt. many_meets n rest (omega arith)) (starts f.first ts) refl

  many_meets_all : (ts : List Terminal) → Meets (many f) ts ((many f).read ts)
  unfolding many_read
  many_meets_all ts = many_meets (length ts) ts (omega arith)

  whole_proper : (all : List A) (u : List Terminal) → many_spell f.spells all u → no_end u ≡ true
  whole_proper [] u s = rw s refl
  whole_proper (a ∷ all) u (x, y, sx, sy, e) = rw e (no_end-append x y (ef.proper x (ef.begun a x sx)) (whole_proper all y sy))

  pub many_exact : Exact (many f)
  many_exact = record {
    lawful = lf;
    begun = many_begun;
    closed = λ w v b. closed_by b.0 w v b.1 b.2 b.3 b.4 b.5;
    nothing = from_then [] (inl ef.nothing);
    first = many_first;
    proper = λ w b. rw b.5 (no_end-append b.1 b.2 (whole_proper b.0 b.1 b.3) (ef.proper b.2 b.4));
    broken = many_broken;
    refuses = many_refuses;
    meets = many_meets_all;
  }

-- ---- the laws together, one for each way to make a form

pub one_form : (set : List ℕ) → no_ends set ≡ true → Exact (one set)
one_form set z = one_exact set z (one_lawful set)

pub refused_form : {A : Type 0} (set : List ℕ) → no_ends set ≡ true → Exact (refused {A = A} set)
refused_form set z = refused_exact set z (refused_lawful set)

pub seq_form : {A B : Type 0} (f : Form A) (g : Form B) → Exact f → Exact g → apart g.first f.more ≡ true → Exact (seq f g)
seq_form f g ef eg ll = seq_exact f g ef eg ll (seq_lawful f g ef.lawful eg.lawful ll)

pub opt_form : {A : Type 0} (f : Form A) → Exact f → f.empty ≡ false → Exact (opt f)
opt_form f ef solid = opt_exact f ef (opt_lawful f ef.lawful solid)

pub many_form : {A : Type 0} (f : Form A) → Exact f → f.empty ≡ false → apart f.first f.more ≡ true → Exact (many f)
many_form f ef solid ll = many_exact f ef solid ll (many_lawful f ef.lawful solid ll)

pub map_form : {A B : Type 0} (h : A → B) (f : Form A) → Exact f → Exact (h <$> f)
map_form h f ef = map_exact h f ef (map_lawful h f ef.lawful)

pub some_form : {A : Type 0} (f : Form A) → Exact f → f.empty ≡ false → apart f.first f.more ≡ true → Exact (some f)
some_form f ef solid ll = map_form _ (seq f (many f)) (seq_form f (many f) ef (many_form f ef solid ll) ll)

pub alt_form : {A : Type 0} (f g : Form A) → Exact f → Exact g → f.empty ≡ false → g.empty ≡ false → apart g.first f.first ≡ true → Exact (alt f g)
alt_form f g ef eg solid solid2 ll = alt_exact f g ef eg ll (alt_lawful f g ef.lawful eg.lawful solid solid2 ll)

pub declared_form : {A : Type 0} (first more : List ℕ) (empty : Bool) (f : Form A) → Exact f → f.first ≡ first → f.more ≡ more → f.empty ≡ empty → Exact (declared first more empty f)
declared_form first more empty f ef e1 e2 e3 = declared_exact first more empty f ef e1 (declared_lawful first more empty f ef.lawful e1 e2 e3)

pub limited_form : {A : Type 0} (breaks : List Terminal → Terminal → Type 0) (f : Form A) → Exact f → ((u : List Terminal) (t : Terminal) → f.breaks u t → breaks u t) → ((u : List Terminal) (t : Terminal) → breaks u t → f.breaks u t) → Exact (limited breaks f)
limited_form breaks f ef to from = limited_exact breaks f ef to from (limited_lawful breaks f ef.lawful)
