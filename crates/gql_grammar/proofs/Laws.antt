-- The laws of forms, proved once for each way to make a form.
use Rattle.std.proofs.Common.{◌≡◌, ℕ, zero, suc, ◌<◌, ◌≤◌, Bool, true, false, cond, List, [], ◌∷◌, ◌++◌, length, Option, Some, None, Result, Ok, Err, refl, sym, ap, subst, ◌∙◌, append_assoc, arith, inl, inr, length-append}
use Rattle.std.specs.Prelude.{not, ◌||◌, ◌&&◌, ◌==◌, ◌⊎◌}
use Rattle.std.proofs.lemmas.List.{append-nil}
use Rattle.std.proofs.lemmas.Bool.{eqb-true}
use Rattle.gql_grammar.specs.Form.{Terminal, Syntax, Stop, Read, ◌>>=◌, among, apart, starts, Form, one, seq, opt, opt_spells, many_spell, many_from, many_read, many, some, alt, ◌<$>◌, refused, refused_at, declared, limited, Shortens}

pub record Lawful {A : Type 0} (f : Form A) : Type 0 where
  -- only a form that may be empty has an empty spelling, and each other one begins with a first sort
  pub empties : (a : A) → f.spells a [] → f.empty ≡ true
  pub firsts : (a : A) (t : Terminal) (ts : List Terminal) → f.spells a (t ∷ ts) → among t.sort f.first ≡ true
  -- what is read is spelled so
  pub found : (ts : List Terminal) (a : A) (rest : List Terminal) → f.read ts ≡ Ok (a, rest) → (u : List Terminal) × f.spells a u × (ts ≡ u ++ rest)
  -- what is spelled so is read, before anything that does not go on with it
  pub only : (a : A) (u : List Terminal) (rest : List Terminal) → f.spells a u → starts f.more rest ≡ false → f.read (u ++ rest) ≡ Ok (a, rest)

-- ---- steps

pub bind_ok : {A B : Type 0} (r : Result A Stop) (f : A → Result B Stop) (y : B) → (r >>= f) ≡ Ok y → (x : A) × (r ≡ Ok x) × (f x ≡ Ok y)
bind_ok (Ok x) f y e = (x, refl, e)
bind_ok (Err d) f y e = absurd cc

guard_ok : {A : Type 0} (b : Bool) (d : Stop) (x y : A) → cond b (Ok x) (Err d) ≡ Ok y → (b ≡ true) × (x ≡ y)
guard_ok true d x y e = (refl, cc)
guard_ok false d x y e = absurd cc

chosen : {A : Type 0} (b : Bool) (x y z : A) → cond b x y ≡ z → ((b ≡ true) × (x ≡ z)) ⊎ ((b ≡ false) × (y ≡ z))
chosen true x y z e = inl (refl, e)
chosen false x y z e = inr (refl, e)

abbrev done : {A : Type 0} → A → Result A Stop
done x = Ok x

pub ok_is : {A : Type 0} (x y : A) → done x ≡ done y → x ≡ y
ok_is x y e = cc

-- ---- sets

or_false : (a b : Bool) → (a || b) ≡ false → (a ≡ false) × (b ≡ false)
or_false true b e = absurd cc
or_false false b e = (refl, e)

or_left : (a b : Bool) → a ≡ true → (a || b) ≡ true
or_left true b e = refl
or_left false b e = absurd cc

or_right : (a b : Bool) → b ≡ true → (a || b) ≡ true
or_right true b e = refl
or_right false b e = e

and_true : (a b : Bool) → (a && b) ≡ true → (a ≡ true) × (b ≡ true)
and_true true b e = (refl, e)
and_true false b e = absurd cc

pub among-append : (s : ℕ) (xs ys : List ℕ) → among s (xs ++ ys) ≡ (among s xs || among s ys)
among-append s [] ys = refl
among-append s (x ∷ xs) ys = elim (s == x) as (λ b. (b || among s (xs ++ ys)) ≡ ((b || among s xs) || among s ys)) [ true ↦ refl | false ↦ among-append s xs ys ]

pub starts-append : (xs ys : List ℕ) (ts : List Terminal) → starts (xs ++ ys) ts ≡ (starts xs ts || starts ys ts)
starts-append xs ys [] = refl
starts-append xs ys (t ∷ ts) = among-append t.sort xs ys

not_true : (b : Bool) → not b ≡ true → b ≡ false
not_true true e = absurd cc
not_true false e = refl

pub apart_false : (s : ℕ) (xs ys : List ℕ) → apart xs ys ≡ true → among s xs ≡ true → among s ys ≡ false
apart_false s [] ys h k = absurd cc
apart_false s (x ∷ xs) ys h k =
    let p = and_true (not (among x ys)) (apart xs ys) h in
    elim (chosen (s == x) true (among s xs) true (cases_or (s == x) (among s xs) k)) [
      | inl c ↦ subst (λ (n : ℕ). among n ys ≡ false) (sym (eqb-true s x c.0)) (not_true (among x ys) p.0)
      | inr c ↦ apart_false s xs ys p.1 c.1
    ]
  where
    cases_or : (a b : Bool) → (a || b) ≡ true → cond a true b ≡ true
    cases_or true b e = refl
    cases_or false b e = e

-- ---- one token

pub one_lawful : (set : List ℕ) → Lawful (one set)
one_lawful set = record {
  empties = λ t h. absurd (no t h.1);
  firsts = λ a t ts h. let e : a ≡ t = heads t a ts h.1 in subst (λ (x : Terminal). among x.sort set ≡ true) e h.0;
  found = found_one;
  only = only_one;
}
  where
    no : (t : Terminal) → [] ≡ t ∷ [] → ⊥
    no t e = cc

    heads : (t a : Terminal) (ts : List Terminal) → t ∷ ts ≡ a ∷ [] → a ≡ t
    heads t a ts e = cc

    found_one : (ts : List Terminal) (a : Terminal) (rest : List Terminal) → (one set).read ts ≡ Ok (a, rest) → (u : List Terminal) × (one set).spells a u × (ts ≡ u ++ rest)
    found_one [] a rest e = absurd cc
    found_one (t ∷ ts) a rest e =
        let g = guard_ok (among t.sort set) (record { fault = Syntax; at = t.at }) (t, ts) (a, rest) e in
        subst (λ (q : Terminal × List Terminal). (u : List Terminal) × (one set).spells q.0 u × (t ∷ ts ≡ u ++ q.1)) g.1 (t ∷ [], (g.0, refl), refl)

    only_one : (a : Terminal) (u rest : List Terminal) → (one set).spells a u → starts [] rest ≡ false → (one set).read (u ++ rest) ≡ Ok (a, rest)
    only_one a u rest h k = rw (h.1, h.0) refl

-- ---- one form and then another

module _ {A B : Type 0} (f : Form A) (g : Form B) (lf : Lawful f) (lg : Lawful g) (ll : apart g.first f.more ≡ true) where
  -- what a spelling of the second begins with does not go on with the first
  no_more : (b : B) (v rest : List Terminal) → g.spells b v → starts (cond g.empty (f.more ++ g.more) g.more) rest ≡ false → starts f.more (v ++ rest) ≡ false
  no_more b [] rest sv k = let e = lg.empties b sv in
      let k2 : starts (f.more ++ g.more) rest ≡ false = subst (λ (x : Bool). starts (cond x (f.more ++ g.more) g.more) rest ≡ false) e k in
      (or_false (starts f.more rest) (starts g.more rest) (sym (starts-append f.more g.more rest) ∙ k2)).0
  no_more b (t ∷ v) rest sv k = apart_false t.sort g.first f.more ll (lg.firsts b t v sv)

  no_more_second : (e : Bool) (rest : List Terminal) → starts (cond e (f.more ++ g.more) g.more) rest ≡ false → starts g.more rest ≡ false
  no_more_second true rest k = (or_false (starts f.more rest) (starts g.more rest) (sym (starts-append f.more g.more rest) ∙ k)).1
  no_more_second false rest k = k

  seq_empties : (p : A × B) → (seq f g).spells p [] → (seq f g).empty ≡ true
  seq_empties p (u, v, su, sv, e) = both u v su sv e
    where
      both : (u v : List Terminal) → f.spells p.0 u → g.spells p.1 v → [] ≡ u ++ v → (f.empty && g.empty) ≡ true
      both [] [] su sv e = rw (lf.empties p.0 su) (lg.empties p.1 sv)
      both [] (t ∷ v) su sv e = absurd cc
      both (t ∷ u) v su sv e = absurd cc

  seq_firsts : (p : A × B) (t : Terminal) (ts : List Terminal) → (seq f g).spells p (t ∷ ts) → among t.sort (seq f g).first ≡ true
  seq_firsts p t ts (u, v, su, sv, e) = both u v su sv e
    where
      pick : (b : Bool) → among t.sort f.first ≡ true → among t.sort (cond b (f.first ++ g.first) f.first) ≡ true
      pick true h = among-append t.sort f.first g.first ∙ or_left (among t.sort f.first) (among t.sort g.first) h
      pick false h = h

      both : (u v : List Terminal) → f.spells p.0 u → g.spells p.1 v → t ∷ ts ≡ u ++ v → among t.sort (seq f g).first ≡ true
      both [] [] su sv e = absurd cc
      both [] (x ∷ v) su sv e =
          let same : x ≡ t = cc in
          let h : among t.sort g.first ≡ true = subst (λ (y : Terminal). among y.sort g.first ≡ true) same (lg.firsts p.1 x v sv) in
          rw (lf.empties p.0 su) (among-append t.sort f.first g.first ∙ or_right (among t.sort f.first) (among t.sort g.first) h)
      both (x ∷ u) v su sv e =
          let same : x ≡ t = cc in
          pick f.empty (subst (λ (y : Terminal). among y.sort f.first ≡ true) same (lf.firsts p.0 x u su))

  seq_found : (ts : List Terminal) (p : A × B) (rest : List Terminal) → (seq f g).read ts ≡ Ok (p, rest) → (u : List Terminal) × (seq f g).spells p u × (ts ≡ u ++ rest)
  seq_found ts p rest e =
      let a = bind_ok (f.read ts) (λ x. g.read x.1 >>= λ y. Ok ((x.0, y.0), y.1)) (p, rest) e in
      let b = bind_ok (g.read a.0.1) (λ y. Ok ((a.0.0, y.0), y.1)) (p, rest) a.2 in
      let u = lf.found ts a.0.0 a.0.1 a.1 in
      let v = lg.found a.0.1 b.0.0 b.0.1 b.1 in
      let made : (A × B) × List Terminal = ((a.0.0, b.0.0), b.0.1) in
      let parts : ts ≡ (u.0 ++ v.0) ++ b.0.1 = u.2 ∙ ap (λ (x : List Terminal). u.0 ++ x) v.2 ∙ sym (append_assoc u.0 v.0 b.0.1) in
      subst (λ (q : (A × B) × List Terminal). (w : List Terminal) × (seq f g).spells q.0 w × (ts ≡ w ++ q.1)) (ok_is made (p, rest) b.2) (u.0 ++ v.0, (u.0, v.0, u.1, v.1, refl), parts)

  seq_only : (p : A × B) (w rest : List Terminal) → (seq f g).spells p w → starts (seq f g).more rest ≡ false → (seq f g).read (w ++ rest) ≡ Ok (p, rest)
  seq_only p w rest (u, v, su, sv, e) k =
      let first : f.read (u ++ (v ++ rest)) ≡ Ok (p.0, v ++ rest) = lf.only p.0 u (v ++ rest) su (no_more p.1 v rest sv k) in
      let second : g.read (v ++ rest) ≡ Ok (p.1, rest) = lg.only p.1 v rest sv (no_more_second g.empty rest k) in
      rw (e, append_assoc u v rest, first, second) refl

  pub seq_lawful : Lawful (seq f g)
  seq_lawful = record { empties = seq_empties; firsts = seq_firsts; found = seq_found; only = seq_only }

-- ---- a form or nothing, and any number of one form: a spelling is not empty, and what begins one does not go on with one

starts_some : (set : List ℕ) (t : Terminal) (u rest : List Terminal) → among t.sort set ≡ true → starts set ((t ∷ u) ++ rest) ≡ true
starts_some set t u rest h = h

module _ {A : Type 0} (f : Form A) (lf : Lawful f) (solid : f.empty ≡ false) where
  -- a spelling begins with a first sort
  pub solid_starts : (a : A) (u rest : List Terminal) → f.spells a u → starts f.first (u ++ rest) ≡ true
  solid_starts a [] rest s = let e = lf.empties a s in absurd cc
  solid_starts a (t ∷ u) rest s = lf.firsts a t u s

  rest_more : (rest : List Terminal) → starts (f.first ++ f.more) rest ≡ false → (starts f.first rest ≡ false) × (starts f.more rest ≡ false)
  rest_more rest k = or_false (starts f.first rest) (starts f.more rest) (sym (starts-append f.first f.more rest) ∙ k)

  opt_found : (ts : List Terminal) (o : Option A) (rest : List Terminal) → (opt f).read ts ≡ Ok (o, rest) → (u : List Terminal) × opt_spells f.spells o u × (ts ≡ u ++ rest)
  opt_found ts o rest e = elim (chosen (starts f.first ts) (f.read ts >>= λ x. Ok (Some x.0, x.1)) (Ok (None, ts)) (Ok (o, rest)) e) [
    | inl c ↦
        let a = bind_ok (f.read ts) (λ x. Ok (Some x.0, x.1)) (o, rest) c.1 in
        let u = lf.found ts a.0.0 a.0.1 a.1 in
        let made : Option A × List Terminal = (Some a.0.0, a.0.1) in
        subst (λ (q : Option A × List Terminal). (w : List Terminal) × opt_spells f.spells q.0 w × (ts ≡ w ++ q.1)) (ok_is made (o, rest) a.2) (u.0, u.1, u.2)
    | inr c ↦
        let made : Option A × List Terminal = (None, ts) in
        subst (λ (q : Option A × List Terminal). (w : List Terminal) × opt_spells f.spells q.0 w × (ts ≡ w ++ q.1)) (ok_is made (o, rest) c.1) ([], refl, refl)
  ]

  opt_only : (o : Option A) (u rest : List Terminal) → opt_spells f.spells o u → starts (f.first ++ f.more) rest ≡ false → (opt f).read (u ++ rest) ≡ Ok (o, rest)
  opt_only None u rest s k = rw (s, (rest_more rest k).0) refl
  opt_only (Some a) u rest s k = rw (solid_starts a u rest s, lf.only a u rest s (rest_more rest k).1) refl

  opt_firsts : (o : Option A) (t : Terminal) (ts : List Terminal) → opt_spells f.spells o (t ∷ ts) → among t.sort f.first ≡ true
  opt_firsts None t ts s = absurd cc
  opt_firsts (Some a) t ts s = lf.firsts a t ts s

  pub opt_lawful : Lawful (opt f)
  opt_lawful = record { empties = λ o s. refl; firsts = opt_firsts; found = opt_found; only = opt_only }

  many_found : (n : ℕ) (ts : List Terminal) (all : List A) (rest : List Terminal) → many_from f.first f.read n ts ≡ Ok (all, rest) → (u : List Terminal) × many_spell f.spells all u × (ts ≡ u ++ rest)
  many_found zero ts all rest e =
      let made : List A × List Terminal = ([], ts) in
      subst (λ (q : List A × List Terminal). (w : List Terminal) × many_spell f.spells q.0 w × (ts ≡ w ++ q.1)) (ok_is made (all, rest) e) ([], refl, refl)
  many_found (suc n) ts all rest e = elim (chosen (starts f.first ts) (f.read ts >>= λ x. many_from f.first f.read n x.1 >>= λ y. Ok (x.0 ∷ y.0, y.1)) (Ok ([], ts)) (Ok (all, rest)) e) [
    | inl c ↦
        let a = bind_ok (f.read ts) (λ x. many_from f.first f.read n x.1 >>= λ y. Ok (x.0 ∷ y.0, y.1)) (all, rest) c.1 in
        let b = bind_ok (many_from f.first f.read n a.0.1) (λ y. Ok (a.0.0 ∷ y.0, y.1)) (all, rest) a.2 in
        let u = lf.found ts a.0.0 a.0.1 a.1 in
        let v = many_found n a.0.1 b.0.0 b.0.1 b.1 in
        let made : List A × List Terminal = (a.0.0 ∷ b.0.0, b.0.1) in
        let parts : ts ≡ (u.0 ++ v.0) ++ b.0.1 = u.2 ∙ ap (λ (x : List Terminal). u.0 ++ x) v.2 ∙ sym (append_assoc u.0 v.0 b.0.1) in
        subst (λ (q : List A × List Terminal). (w : List Terminal) × many_spell f.spells q.0 w × (ts ≡ w ++ q.1)) (ok_is made (all, rest) b.2) (u.0 ++ v.0, (u.0, v.0, u.1, v.1, refl), parts)
    | inr c ↦
        let made : List A × List Terminal = ([], ts) in
        subst (λ (q : List A × List Terminal). (w : List Terminal) × many_spell f.spells q.0 w × (ts ≡ w ++ q.1)) (ok_is made (all, rest) c.1) ([], refl, refl)
  ]

  many_firsts : (all : List A) (t : Terminal) (ts : List Terminal) → many_spell f.spells all (t ∷ ts) → among t.sort f.first ≡ true
  many_firsts [] t ts s = absurd cc
  many_firsts (a ∷ all) t ts (u, v, su, sv, e) = by_first u v su e
    where
      by_first : (u v : List Terminal) → f.spells a u → t ∷ ts ≡ u ++ v → among t.sort f.first ≡ true
      by_first [] v su e = let h = lf.empties a su in absurd cc
      by_first (x ∷ u) v su e = let same : x ≡ t = cc in subst (λ (y : Terminal). among y.sort f.first ≡ true) same (lf.firsts a x u su)

  long : (a : A) (u : List Terminal) → f.spells a u → 1 ≤ length u
  long a [] s = let e = lf.empties a s in absurd cc
  long a (t ∷ u) s = omega arith

  -- after a whole one comes another, or what comes after all
  module _ (ll : apart f.first f.more ≡ true) where
    next_more : (all : List A) (v rest : List Terminal) → many_spell f.spells all v → starts (f.first ++ f.more) rest ≡ false → starts f.more (v ++ rest) ≡ false
    next_more all [] rest s k = (rest_more rest k).1
    next_more all (t ∷ v) rest s k = apart_false t.sort f.first f.more ll (many_firsts all t v s)

    many_only : (n : ℕ) (all : List A) (u rest : List Terminal) → length u ≤ n → many_spell f.spells all u → starts (f.first ++ f.more) rest ≡ false → many_from f.first f.read n (u ++ rest) ≡ Ok (all, rest)
    many_only zero [] u rest le s k = rw s refl
    many_only zero (a ∷ all) w rest le (u, v, su, sv, e) k = let h = long a u su in absurd (omega (arith, ap length e, length-append u v))
    many_only (suc n) [] u rest le s k = rw (s, (rest_more rest k).0) refl
    many_only (suc n) (a ∷ all) w rest le (u, v, su, sv, e) k =
        let h = long a u su in
        let first : f.read (u ++ (v ++ rest)) ≡ Ok (a, v ++ rest) = lf.only a u (v ++ rest) su (next_more all v rest sv k) in
        let short : length v ≤ n = omega (arith, ap length e, length-append u v) in
        let others : many_from f.first f.read n (v ++ rest) ≡ Ok (all, rest) = many_only n all v rest short sv k in
        rw (e, append_assoc u v rest, solid_starts a u (v ++ rest) su, first, others) refl

    many_only_all : (all : List A) (u rest : List Terminal) → many_spell f.spells all u → starts (f.first ++ f.more) rest ≡ false → (many f).read (u ++ rest) ≡ Ok (all, rest)
    unfolding many_read
    many_only_all all u rest s k = many_only (length (u ++ rest)) all u rest (omega (arith, length-append u rest)) s k

    pub many_lawful : Lawful (many f)
    unfolding many_read
    many_lawful = record { empties = λ all s. refl; firsts = many_firsts; found = λ ts all rest e. many_found (length ts) ts all rest e; only = many_only_all }

-- ---- the same tokens for another value

module _ {A B : Type 0} (h : A → B) (f : Form A) (lf : Lawful f) where
  map_found : (ts : List Terminal) (b : B) (rest : List Terminal) → (h <$> f).read ts ≡ Ok (b, rest) → (u : List Terminal) × (h <$> f).spells b u × (ts ≡ u ++ rest)
  map_found ts b rest e =
      let a = bind_ok (f.read ts) (λ x. Ok (h x.0, x.1)) (b, rest) e in
      let u = lf.found ts a.0.0 a.0.1 a.1 in
      let made : B × List Terminal = (h a.0.0, a.0.1) in
      subst (λ (q : B × List Terminal). (w : List Terminal) × (h <$> f).spells q.0 w × (ts ≡ w ++ q.1)) (ok_is made (b, rest) a.2) (u.0, (a.0.0, u.1, refl), u.2)

  map_only : (b : B) (u rest : List Terminal) → (h <$> f).spells b u → starts f.more rest ≡ false → (h <$> f).read (u ++ rest) ≡ Ok (b, rest)
  map_only b u rest (a, s, e) k = rw (lf.only a u rest s k, e) refl

  pub map_lawful : Lawful (h <$> f)
  map_lawful = record { empties = λ b s. lf.empties s.0 s.1; firsts = λ b t ts s. lf.firsts s.0 t ts s.1; found = map_found; only = map_only }

-- ---- one form or another

module _ {A : Type 0} (f g : Form A) (lf : Lawful f) (lg : Lawful g) (solid : f.empty ≡ false) (solid2 : g.empty ≡ false) (ll : apart g.first f.first ≡ true) where
  alt_found : (ts : List Terminal) (a : A) (rest : List Terminal) → (alt f g).read ts ≡ Ok (a, rest) → (u : List Terminal) × (alt f g).spells a u × (ts ≡ u ++ rest)
  alt_found ts a rest e = elim (chosen (starts f.first ts) (f.read ts) (g.read ts) (Ok (a, rest)) e) [
    | inl c ↦ let u = lf.found ts a rest c.1 in (u.0, inl u.1, u.2)
    | inr c ↦ let u = lg.found ts a rest c.1 in (u.0, inr u.1, u.2)
  ]

  not_first : (a : A) (u rest : List Terminal) → g.spells a u → starts f.first (u ++ rest) ≡ false
  not_first a [] rest s = let e = lg.empties a s in absurd cc
  not_first a (t ∷ u) rest s = apart_false t.sort g.first f.first ll (lg.firsts a t u s)

  alt_only : (a : A) (u rest : List Terminal) → (alt f g).spells a u → starts (f.more ++ g.more) rest ≡ false → (alt f g).read (u ++ rest) ≡ Ok (a, rest)
  alt_only a u rest (inl s) k =
      let m = or_false (starts f.more rest) (starts g.more rest) (sym (starts-append f.more g.more rest) ∙ k) in
      rw (solid_starts f lf solid a u rest s) (lf.only a u rest s m.0)
  alt_only a u rest (inr s) k =
      let m = or_false (starts f.more rest) (starts g.more rest) (sym (starts-append f.more g.more rest) ∙ k) in
      rw (not_first a u rest s) (lg.only a u rest s m.1)

  alt_empties : (a : A) → (alt f g).spells a [] → (alt f g).empty ≡ true
  alt_empties a (inl s) = or_left f.empty g.empty (lf.empties a s)
  alt_empties a (inr s) = or_right f.empty g.empty (lg.empties a s)

  alt_firsts : (a : A) (t : Terminal) (ts : List Terminal) → (alt f g).spells a (t ∷ ts) → among t.sort (f.first ++ g.first) ≡ true
  alt_firsts a t ts (inl s) = among-append t.sort f.first g.first ∙ or_left (among t.sort f.first) (among t.sort g.first) (lf.firsts a t ts s)
  alt_firsts a t ts (inr s) = among-append t.sort f.first g.first ∙ or_right (among t.sort f.first) (among t.sort g.first) (lg.firsts a t ts s)

  pub alt_lawful : Lawful (alt f g)
  alt_lawful = record { empties = alt_empties; firsts = alt_firsts; found = alt_found; only = alt_only }

-- ---- a token that a limit refuses: nothing is spelled

pub refused_lawful : {A : Type 0} (set : List ℕ) → Lawful (refused {A = A} set)
refused_lawful {A} set = record {
  empties = λ a s. absurd s;
  firsts = λ a t ts s. absurd s;
  found = found_none;
  only = λ a u rest s k. absurd s;
}
  where
    found_none : (ts : List Terminal) (a : A) (rest : List Terminal) → refused_at set ts ≡ Ok (a, rest) → (u : List Terminal) × ⊥ × (ts ≡ u ++ rest)
    found_none [] a rest e = absurd cc
    found_none (t ∷ ts) a rest e = absurd cc

-- ---- a loop over many

abbrev pub front : {A : Type 0} → List A → Read (List A) → Read (List A)
front xs r = r >>= λ x. Ok (xs ++ x.0, x.1)

front-front : {A : Type 0} (xs ys : List A) (r : Read (List A)) → front xs (front ys r) ≡ front (xs ++ ys) r
front-front xs ys (Ok x) = ap (λ (l : List _). Ok (l, x.1)) (sym (append_assoc xs ys x.0))
front-front xs ys (Err e) = refl

-- an item takes a token
pub shorter : {A : Type 0} (f : Form A) (lf : Lawful f) (solid : f.empty ≡ false) (ts : List Terminal) (a : A) (rest : List Terminal) → f.read ts ≡ Ok (a, rest) → length rest < length ts
shorter f lf solid ts a rest e =
    let u = lf.found ts a rest e in
    let h = long f lf solid a u.0 u.1 in
    omega (arith, ap length u.2, length-append u.0 rest)

module _ {A : Type 0} (set : List ℕ) (read : List Terminal → Read A) (short : Shortens read) where
  -- the fuel does not matter
  enough : (n m : ℕ) (ts : List Terminal) → length ts ≤ n → length ts ≤ m → many_from set read n ts ≡ many_from set read m ts
  enough zero zero ts p q = refl
  enough zero (suc m) [] p q = refl
  enough zero (suc m) (t ∷ ts) p q = absurd (omega arith)
  enough (suc n) zero [] p q = refl
  enough (suc n) zero (t ∷ ts) p q = absurd (omega arith)
  enough (suc n) (suc m) ts p q = by_read n m ts (λ rest lt. enough n m rest (omega arith) (omega arith)) (read ts) refl
    where
      by_read : (n m : ℕ) (ts : List Terminal) → ((rest : List Terminal) → length rest < length ts → many_from set read n rest ≡ many_from set read m rest) → (r : Read A) → read ts ≡ r → many_from set read (suc n) ts ≡ many_from set read (suc m) ts
      by_read n m ts same (Err e) h = rw h refl
      by_read n m ts same (Ok x) h = rw (h, same x.1 (short ts x.0 x.1 h)) refl

  pub many_one : (ts : List Terminal) (a : A) (rest : List Terminal) → starts set ts ≡ true → read ts ≡ Ok (a, rest) → many_read set read ts ≡ front (a ∷ []) (many_read set read rest)
  unfolding many_read
  many_one [] a rest s e = absurd cc
  many_one (t ∷ ts) a rest s e =
      let lt = short (t ∷ ts) a rest e in
      let same : many_from set read (length ts) rest ≡ many_from set read (length rest) rest = enough (length ts) (length rest) rest (omega arith) (omega arith) in
      rw (s, e, same) refl

  pub many_none : (ts : List Terminal) → starts set ts ≡ false → many_read set read ts ≡ Ok ([], ts)
  unfolding many_read
  many_none [] s = refl
  many_none (t ∷ ts) s = rw s refl

  pub many_fails : (ts : List Terminal) (stop : Stop) → starts set ts ≡ true → read ts ≡ Err stop → many_read set read ts ≡ Err stop
  unfolding many_read
  many_fails [] stop s e = absurd cc
  many_fails (t ∷ ts) stop s e = rw (s, e) refl

  -- the steps of a loop: another item, the end, and a fault
  pub goes_on : (xs : List A) (ts : List Terminal) (a : A) (rest : List Terminal) (total : Read (List A)) → starts set ts ≡ true → read ts ≡ Ok (a, rest) → front xs (many_read set read ts) ≡ total → front (xs ++ a ∷ []) (many_read set read rest) ≡ total
  goes_on xs ts a rest total s e so_far = sym (front-front xs (a ∷ []) (many_read set read rest)) ∙ ap (front xs) (sym (many_one ts a rest s e)) ∙ so_far

  pub is_done : (xs : List A) (ts : List Terminal) (total : Read (List A)) → starts set ts ≡ false → front xs (many_read set read ts) ≡ total → total ≡ Ok (xs, ts)
  is_done xs ts total s so_far = sym so_far ∙ ap (front xs) (many_none ts s) ∙ ap (λ (l : List A). Ok (l, ts)) (append-nil xs)

  pub stops : (xs : List A) (ts : List Terminal) (stop : Stop) (total : Read (List A)) → starts set ts ≡ true → read ts ≡ Err stop → front xs (many_read set read ts) ≡ total → total ≡ Err stop
  stops xs ts stop total s e so_far = sym so_far ∙ ap (front xs) (many_fails ts stop s e)

-- ---- at least one

pub some_lawful : {A : Type 0} (f : Form A) (lf : Lawful f) (solid : f.empty ≡ false) (ll : apart f.first f.more ≡ true) → Lawful (some f)
some_lawful f lf solid ll = map_lawful _ _ (seq_lawful f (many f) lf (many_lawful f lf solid ll) ll)

pub declared_lawful : {A : Type 0} (first more : List ℕ) (empty : Bool) (f : Form A) → Lawful f → f.first ≡ first → f.more ≡ more → f.empty ≡ empty → Lawful (declared first more empty f)
declared_lawful first more empty f lf e1 e2 e3 = record {
  empties = λ a s. sym e3 ∙ lf.empties a s;
  firsts = λ a t ts s. rw (← e1) (lf.firsts a t ts s);
  found = lf.found;
  only = λ a u rest s k. lf.only a u rest s (rw e2 k);
}

pub limited_lawful : {A : Type 0} (breaks : List Terminal → Terminal → Type 0) (f : Form A) → Lawful f → Lawful (limited breaks f)
limited_lawful breaks f lf = record { empties = lf.empties; firsts = lf.firsts; found = lf.found; only = lf.only }
