-- A form that nests breaks its limit exactly at a token that exceeds it.
use Rattle.std.proofs.Common.{◌≡◌, ℕ, suc, ◌+◌, Bool, true, false, List, [], ◌∷◌, ◌++◌, Option, Some, None, refl, sym, ap, subst, ◌∙◌, append_assoc, arith, inl, inr}
use Rattle.std.specs.Prelude.{not, ◌&&◌, ◌||◌, ◌⊎◌, ◌==◌}
use Rattle.std.proofs.lemmas.List.{append-nil}
use Rattle.gql_grammar.specs.Form.{Terminal, Form, among, apart, one, seq, opt, opt_spells, many, many_spell, alt, refused, ◌<$>◌}
use Rattle.gql_grammar.specs.Brackets.{open_after_one, open_after, Exceeds}
use Rattle.gql_grammar.proofs.Laws.{apart_false}

module _ (opening closing limits : List ℕ) (oc : apart opening closing ≡ true) (lo : apart limits opening ≡ true) (lc : apart limits closing ≡ true) where
  -- no token of these is refused
  abbrev clear : List Terminal → Bool
  clear [] = true
  clear (t ∷ ts) = not (among t.sort limits) && clear ts

  pub record Counts {A : Type 0} (f : Form A) (most : ℕ) : Type 0 where
    -- a spelling leaves no bracket open, and has no refused token
    pub whole : (a : A) (u : List Terminal) → f.spells a u → (n : ℕ) (rest : List Terminal) → open_after opening closing n (u ++ rest) ≡ open_after opening closing n rest
    pub clean : (a : A) (u : List Terminal) → f.spells a u → clear u ≡ true
    pub sound : (ts : List Terminal) (t : Terminal) → f.breaks ts t → (n : ℕ) → Exceeds opening closing limits most n ts t
    pub exact : (ts : List Terminal) (t : Terminal) → f.begins (ts ++ t ∷ []) → (n : ℕ) → Exceeds opening closing limits most n ts t → f.breaks ts t

  clear-append : (u v : List Terminal) → clear u ≡ true → clear v ≡ true → clear (u ++ v) ≡ true
  clear-append [] v a b = b
  clear-append (t ∷ u) v a b = both (not (among t.sort limits)) (clear u) a (λ c. clear-append u v c b)
    where
      both : (x y : Bool) → (x && y) ≡ true → (y ≡ true → clear (u ++ v) ≡ true) → (x && clear (u ++ v)) ≡ true
      both true y e k = k e
      both false y e k = absurd cc

  clear_last : (u : List Terminal) (t : Terminal) → clear (u ++ t ∷ []) ≡ true → among t.sort limits ≡ true → ⊥
  clear_last [] t c e = by_test (among t.sort limits) c e
    where
      by_test : (b : Bool) → (not b && true) ≡ true → b ≡ true → ⊥
      by_test true c e = cc
      by_test false c e = cc
  clear_last (h ∷ u) t c e = clear_last u t (second (not (among h.sort limits)) (clear (u ++ t ∷ [])) c) e
    where
      second : (x y : Bool) → (x && y) ≡ true → y ≡ true
      second true y e = e
      second false y e = absurd cc

  open_after-append : (n : ℕ) (u v : List Terminal) → open_after opening closing n (u ++ v) ≡ open_after opening closing (open_after opening closing n u) v
  open_after-append n [] v = refl
  open_after-append n (t ∷ u) v = open_after-append (open_after_one opening closing n t) u v

  opens : (n : ℕ) (t : Terminal) → among t.sort opening ≡ true → open_after_one opening closing n t ≡ n + 1
  opens n t e = rw e refl

  -- a token that exceeds the limit is not the last one of a spelling
  not_last : {A : Type 0} (f : Form A) (most : ℕ) (c : Counts f most) (a : A) (u : List Terminal) (t : Terminal) → f.spells a (u ++ t ∷ []) → (m n : ℕ) (ts : List Terminal) → Exceeds opening closing limits m n ts t → ⊥
  not_last f most c a u t s m n ts (inl r) = clear_last u t (c.clean a (u ++ t ∷ []) s) r
  not_last f most c a u t s m n ts (inr o) =
      let w = c.whole a (u ++ t ∷ []) s 0 [] in
      let e : open_after opening closing 0 ((u ++ t ∷ []) ++ []) ≡ open_after opening closing 0 u + 1 = ap (open_after opening closing 0) (append-nil (u ++ t ∷ [])) ∙ open_after-append 0 u (t ∷ []) ∙ opens (open_after opening closing 0 u) t o.0 in
      absurd (omega (arith, w, e))

  -- the last of some tokens, or all of them before the last
  last : (ts : List Terminal) (t : Terminal) (x y : List Terminal) → ts ++ t ∷ [] ≡ x ++ y → ((y ≡ []) × (x ≡ ts ++ t ∷ [])) ⊎ ((z : List Terminal) × (y ≡ z ++ t ∷ []) × (ts ≡ x ++ z))
  last ts t [] y e = inr (ts, sym e, refl)
  last [] t (h ∷ []) y e = inl ((let q : [] ≡ y = cc in sym q), (let q : t ≡ h = cc in cc))
  last [] t (h ∷ k ∷ x) y e = absurd cc
  last (a ∷ ts) t (h ∷ x) y e =
      let q : ts ++ t ∷ [] ≡ x ++ y = cc in
      let same : a ≡ h = cc in
      elim (last ts t x y q) [
        | inl p ↦ inl (p.0, (let r : x ≡ ts ++ t ∷ [] = p.1 in cc))
        | inr p ↦ inr (p.0, p.1, (let r : ts ≡ x ++ p.0 = p.2 in cc))
      ]

  -- ---- the ways to make a form

  -- one token that is no bracket and is not refused
  module _ (set : List ℕ) (so : apart set opening ≡ true) (sc : apart set closing ≡ true) (sl : apart set limits ≡ true) where
    stays : (n : ℕ) (t : Terminal) → among t.sort set ≡ true → open_after_one opening closing n t ≡ n
    stays n t e = rw (apart_false t.sort set opening so e, apart_false t.sort set closing sc e) refl

    pub one_counts : (most : ℕ) → Counts (one set) most
    one_counts most = record { whole = whole; clean = clean; sound = λ ts t b. absurd b; exact = exact }
      where
        whole : (a : Terminal) (u : List Terminal) → (one set).spells a u → (n : ℕ) (rest : List Terminal) → open_after opening closing n (u ++ rest) ≡ open_after opening closing n rest
        whole a u s n rest = ap (λ (l : List Terminal). open_after opening closing n (l ++ rest)) s.1 ∙ ap (λ (k : ℕ). open_after opening closing k rest) (stays n a s.0)

        clean : (a : Terminal) (u : List Terminal) → (one set).spells a u → clear u ≡ true
        clean a u s = rw (s.1, apart_false a.sort set limits sl s.0) refl

        other : (t : Terminal) (m n : ℕ) (ts : List Terminal) → among t.sort set ≡ true → Exceeds opening closing limits m n ts t → ⊥
        other t m n ts e (inl r) = let k = apart_false t.sort set limits sl e in cc
        other t m n ts e (inr o) = let k = apart_false t.sort set opening so e in let h = o.0 in cc

        exact : (ts : List Terminal) (t : Terminal) → (one set).begins (ts ++ t ∷ []) → (n : ℕ) → Exceeds opening closing limits most n ts t → ⊥
        exact [] t (inl e) n x = absurd cc
        exact (h ∷ ts) t (inl e) n x = absurd cc
        exact [] t (inr (a, k, e)) n x = let same : a ≡ t = cc in other t most n [] (subst (λ (y : Terminal). among y.sort set ≡ true) same k) x
        exact (h ∷ []) t (inr (a, k, e)) n x = absurd cc
        exact (h ∷ g ∷ ts) t (inr (a, k, e)) n x = absurd cc

  module _ {A B : Type 0} (f : Form A) (g : Form B) (most : ℕ) (cf : Counts f most) (cg : Counts g most) where
    seq_whole : (p : A × B) (w : List Terminal) → (seq f g).spells p w → (n : ℕ) (rest : List Terminal) → open_after opening closing n (w ++ rest) ≡ open_after opening closing n rest
    seq_whole p w (u, v, su, sv, e) n rest =
        ap (λ (l : List Terminal). open_after opening closing n (l ++ rest)) e ∙ ap (open_after opening closing n) (append_assoc u v rest) ∙ cf.whole p.0 u su n (v ++ rest) ∙ cg.whole p.1 v sv n rest

    seq_clean : (p : A × B) (w : List Terminal) → (seq f g).spells p w → clear w ≡ true
    seq_clean p w (u, v, su, sv, e) = rw e (clear-append u v (cf.clean p.0 u su) (cg.clean p.1 v sv))

    -- after a spelling as many are open as before
    behind : (a : A) (u v : List Terminal) (t : Terminal) (n : ℕ) → f.spells a u → Exceeds opening closing limits most n v t → Exceeds opening closing limits most n (u ++ v) t
    behind a u v t n su (inl r) = inl r
    behind a u v t n su (inr o) = inr (o.0, cf.whole a u su n v ∙ o.1)

    before : (a : A) (u v : List Terminal) (t : Terminal) (n : ℕ) → f.spells a u → Exceeds opening closing limits most n (u ++ v) t → Exceeds opening closing limits most n v t
    before a u v t n su (inl r) = inl r
    before a u v t n su (inr o) = inr (o.0, sym (cf.whole a u su n v) ∙ o.1)

    seq_sound : (ts : List Terminal) (t : Terminal) → (seq f g).breaks ts t → (n : ℕ) → Exceeds opening closing limits most n ts t
    seq_sound ts t (inl b) n = cf.sound ts t b n
    seq_sound ts t (inr (a, u, v, su, bv, e)) n = rw e (behind a u v t n su (cg.sound v t bv n))

    seq_exact : (ts : List Terminal) (t : Terminal) → (seq f g).begins (ts ++ t ∷ []) → (n : ℕ) → Exceeds opening closing limits most n ts t → (seq f g).breaks ts t
    seq_exact ts t (inl b) n x = inl (cf.exact ts t b n x)
    seq_exact ts t (inr (a, u, v, su, bv, e)) n x = elim (last ts t u v e) [
      | inl p ↦ absurd (not_last f most cf a ts t (subst (λ (l : List Terminal). f.spells a l) p.1 su) most n ts x)
      | inr p ↦ inr (a, u, p.0, su, cg.exact p.0 t (subst g.begins p.1 bv) n (before a u p.0 t n su (subst (λ (l : List Terminal). Exceeds opening closing limits most n l t) p.2 x)), p.2)
    ]

    pub seq_counts : Counts (seq f g) most
    seq_counts = record { whole = seq_whole; clean = seq_clean; sound = seq_sound; exact = seq_exact }

  pub opt_counts : {A : Type 0} (f : Form A) (most : ℕ) → Counts f most → Counts (opt f) most
  opt_counts {A} f most c = record { whole = whole; clean = clean; sound = c.sound; exact = c.exact }
    where
      whole : (o : Option A) (u : List Terminal) → opt_spells f.spells o u → (n : ℕ) (rest : List Terminal) → open_after opening closing n (u ++ rest) ≡ open_after opening closing n rest
      whole None u s n rest = rw s refl
      whole (Some a) u s n rest = c.whole a u s n rest

      clean : (o : Option A) (u : List Terminal) → opt_spells f.spells o u → clear u ≡ true
      clean None u s = rw s refl
      clean (Some a) u s = c.clean a u s

  pub map_counts : {A B : Type 0} (h : A → B) (f : Form A) (most : ℕ) → Counts f most → Counts (h <$> f) most
  map_counts h f most c = record { whole = λ b u s. c.whole s.0 u s.1; clean = λ b u s. c.clean s.0 u s.1; sound = c.sound; exact = c.exact }

  pub alt_counts : {A : Type 0} (f g : Form A) (most : ℕ) → Counts f most → Counts g most → Counts (alt f g) most
  alt_counts {A} f g most c d = record { whole = whole; clean = clean; sound = sound; exact = exact }
    where
      whole : (a : A) (u : List Terminal) → (alt f g).spells a u → (n : ℕ) (rest : List Terminal) → open_after opening closing n (u ++ rest) ≡ open_after opening closing n rest
      whole a u (inl s) n rest = c.whole a u s n rest
      whole a u (inr s) n rest = d.whole a u s n rest

      clean : (a : A) (u : List Terminal) → (alt f g).spells a u → clear u ≡ true
      clean a u (inl s) = c.clean a u s
      clean a u (inr s) = d.clean a u s

      sound : (ts : List Terminal) (t : Terminal) → (alt f g).breaks ts t → (n : ℕ) → Exceeds opening closing limits most n ts t
      sound ts t (inl b) n = c.sound ts t b n
      sound ts t (inr b) n = d.sound ts t b n

      exact : (ts : List Terminal) (t : Terminal) → (alt f g).begins (ts ++ t ∷ []) → (n : ℕ) → Exceeds opening closing limits most n ts t → (alt f g).breaks ts t
      exact ts t (inl b) n x = inl (c.exact ts t b n x)
      exact ts t (inr b) n x = inr (d.exact ts t b n x)

  module _ {A : Type 0} (f : Form A) (most : ℕ) (c : Counts f most) where
    many_whole : (all : List A) (u : List Terminal) → many_spell f.spells all u → (n : ℕ) (rest : List Terminal) → open_after opening closing n (u ++ rest) ≡ open_after opening closing n rest
    many_whole [] u s n rest = rw s refl
    many_whole (a ∷ all) w (u, v, su, sv, e) n rest =
        ap (λ (l : List Terminal). open_after opening closing n (l ++ rest)) e ∙ ap (open_after opening closing n) (append_assoc u v rest) ∙ c.whole a u su n (v ++ rest) ∙ many_whole all v sv n rest

    many_clean : (all : List A) (u : List Terminal) → many_spell f.spells all u → clear u ≡ true
    many_clean [] u s = rw s refl
    many_clean (a ∷ all) w (u, v, su, sv, e) = rw e (clear-append u v (c.clean a u su) (many_clean all v sv))

    many_sound : (ts : List Terminal) (t : Terminal) → (many f).breaks ts t → (n : ℕ) → Exceeds opening closing limits most n ts t
    many_sound ts t (all, u, v, su, bv, e) n = rw e (shift (c.sound v t bv n))
      where
        shift : Exceeds opening closing limits most n v t → Exceeds opening closing limits most n (u ++ v) t
        shift (inl r) = inl r
        shift (inr o) = inr (o.0, many_whole all u su n v ∙ o.1)

    -- the last of whole ones
    ends : (all : List A) (u : List Terminal) (t : Terminal) → many_spell f.spells all (u ++ t ∷ []) → (m n : ℕ) (ts : List Terminal) → Exceeds opening closing limits m n ts t → ⊥
    ends all u t s m n ts (inl r) = clear_last u t (many_clean all (u ++ t ∷ []) s) r
    ends all u t s m n ts (inr o) =
        let w = many_whole all (u ++ t ∷ []) s 0 [] in
        let e : open_after opening closing 0 ((u ++ t ∷ []) ++ []) ≡ open_after opening closing 0 u + 1 = ap (open_after opening closing 0) (append-nil (u ++ t ∷ [])) ∙ open_after-append 0 u (t ∷ []) ∙ opens (open_after opening closing 0 u) t o.0 in
        absurd (omega (arith, w, e))

    many_exact : (ts : List Terminal) (t : Terminal) → (many f).begins (ts ++ t ∷ []) → (n : ℕ) → Exceeds opening closing limits most n ts t → (many f).breaks ts t
    many_exact ts t (all, u, v, su, bv, e) n x = elim (last ts t u v e) [
      | inl p ↦ absurd (ends all ts t (subst (λ (l : List Terminal). many_spell f.spells all l) p.1 su) most n ts x)
      | inr p ↦ (all, u, p.0, su, c.exact p.0 t (subst f.begins p.1 bv) n (shift p.0 (subst (λ (l : List Terminal). Exceeds opening closing limits most n l t) p.2 x)), p.2)
    ]
      where
        shift : (z : List Terminal) → Exceeds opening closing limits most n (u ++ z) t → Exceeds opening closing limits most n z t
        shift z (inl r) = inl r
        shift z (inr o) = inr (o.0, sym (many_whole all u su n z) ∙ o.1)

    pub many_counts : Counts (many f) most
    many_counts = record { whole = many_whole; clean = many_clean; sound = many_sound; exact = many_exact }

  -- refused tokens, or opening brackets where none may be open
  module _ {A : Type 0} (set : List ℕ) (most : ℕ) (over : (t : Terminal) (n : ℕ) → among t.sort set ≡ true → Exceeds opening closing limits most n [] t) where
    pub refused_counts : Counts (refused {A = A} set) most
    refused_counts = record { whole = λ a u s. absurd s; clean = λ a u s. absurd s; sound = sound; exact = exact }
      where
        sound : (ts : List Terminal) (t : Terminal) → (refused {A = A} set).breaks ts t → (n : ℕ) → Exceeds opening closing limits most n ts t
        sound ts t (e, k) n = rw e (over t n k)

        exact : (ts : List Terminal) (t : Terminal) → (refused {A = A} set).begins (ts ++ t ∷ []) → (n : ℕ) → Exceeds opening closing limits most n ts t → (refused {A = A} set).breaks ts t
        exact [] t (inl e) n x = absurd cc
        exact (h ∷ ts) t (inl e) n x = absurd cc
        exact [] t (inr (a, k, e)) n x = let same : a ≡ t = cc in (refl, subst (λ (y : Terminal). among y.sort set ≡ true) same k)
        exact (h ∷ []) t (inr (a, k, e)) n x = absurd cc
        exact (h ∷ g ∷ ts) t (inr (a, k, e)) n x = absurd cc

  -- ---- a form in brackets

  module _ {A : Type 0} (f : Form A) (o c : ℕ) (most : ℕ) (cf : Counts f most) (is_open : among o opening ≡ true) (is_close : among c closing ≡ true) (close_open : among c opening ≡ false) (open_clear : among o limits ≡ false) (close_clear : among c limits ≡ false) where
    abbrev within : Form (Terminal × (A × Terminal))
    within = seq (one (o ∷ [])) (seq f (one (c ∷ [])))

    same_sort : (n m : ℕ) → among n (m ∷ []) ≡ true → n ≡ m
    same_sort n m e = by_test (n == m) refl e
      where
        by_test : (b : Bool) → (n == m) ≡ b → (b || false) ≡ true → n ≡ m
        by_test true k e = grind arith
        by_test false k e = absurd cc

    opened : (n : ℕ) (t : Terminal) → among t.sort (o ∷ []) ≡ true → open_after_one opening closing n t ≡ n + 1
    opened n t e = rw (same_sort t.sort o e, is_open) refl

    closed : (n : ℕ) (t : Terminal) → among t.sort (c ∷ []) ≡ true → open_after_one opening closing (n + 1) t ≡ n
    closed n t e = rw (same_sort t.sort c e, close_open, is_close) (omega arith)

    within_whole : (p : Terminal × (A × Terminal)) (u : List Terminal) → within.spells p u → (n : ℕ) (rest : List Terminal) → open_after opening closing n (u ++ rest) ≡ open_after opening closing n rest
    within_whole p u (x, y, sx, (v, z, sv, sz, ey), e) n rest =
        let parts : u ++ rest ≡ p.0 ∷ (v ++ (p.1.1 ∷ rest)) = rw (e, sx.1, ey, sz.1) (ap (λ (l : List Terminal). p.0 ∷ l) (append_assoc v (p.1.1 ∷ []) rest)) in
        ap (open_after opening closing n) parts ∙ ap (λ (k : ℕ). open_after opening closing k (v ++ (p.1.1 ∷ rest))) (opened n p.0 sx.0) ∙ cf.whole p.1.0 v sv (n + 1) (p.1.1 ∷ rest) ∙ ap (λ (k : ℕ). open_after opening closing k rest) (closed n p.1.1 sz.0)

    within_clean : (p : Terminal × (A × Terminal)) (u : List Terminal) → within.spells p u → clear u ≡ true
    within_clean p u (x, y, sx, (v, z, sv, sz, ey), e) =
        let first : clear x ≡ true = rw (sx.1, same_sort p.0.sort o sx.0, open_clear) refl in
        let final : clear z ≡ true = rw (sz.1, same_sort p.1.1.sort c sz.0, close_clear) refl in
        rw (e, ey) (clear-append x (v ++ z) first (clear-append v z (cf.clean p.1.0 v sv) final))

    deeper : (t0 : Terminal) (ts : List Terminal) (t : Terminal) (n : ℕ) → among t0.sort (o ∷ []) ≡ true → Exceeds opening closing limits most (n + 1) ts t → Exceeds opening closing limits (suc most) n (t0 ∷ ts) t
    deeper t0 ts t n k (inl r) = inl r
    deeper t0 ts t n k (inr x) = inr (x.0, ap (λ (j : ℕ). open_after opening closing j ts) (opened n t0 k) ∙ omega (arith, x.1))

    higher : (t0 : Terminal) (ts : List Terminal) (t : Terminal) (n : ℕ) → among t0.sort (o ∷ []) ≡ true → Exceeds opening closing limits (suc most) n (t0 ∷ ts) t → Exceeds opening closing limits most (n + 1) ts t
    higher t0 ts t n k (inl r) = inl r
    higher t0 ts t n k (inr x) = inr (x.0, sym (ap (λ (j : ℕ). open_after opening closing j ts) (opened n t0 k)) ∙ omega (arith, x.1))

    -- the first bracket and the last exceed no limit
    not_first : (t : Terminal) (n : ℕ) → among t.sort (o ∷ []) ≡ true → Exceeds opening closing limits (suc most) n [] t → ⊥
    not_first t n k (inl r) = let e : among o limits ≡ true = subst (λ (j : ℕ). among j limits ≡ true) (same_sort t.sort o k) r in cc
    not_first t n k (inr x) = absurd (omega (arith, x.1))

    not_close : (t : Terminal) (m n : ℕ) (ts : List Terminal) → among t.sort (c ∷ []) ≡ true → Exceeds opening closing limits m n ts t → ⊥
    not_close t m n ts k (inl r) = let e : among c limits ≡ true = subst (λ (j : ℕ). among j limits ≡ true) (same_sort t.sort c k) r in cc
    not_close t m n ts k (inr x) = let e : among c opening ≡ true = subst (λ (j : ℕ). among j opening ≡ true) (same_sort t.sort c k) x.0 in cc

    within_sound : (ts : List Terminal) (t : Terminal) → within.breaks ts t → (n : ℕ) → Exceeds opening closing limits (suc most) n ts t
    within_sound ts t (inl b) n = absurd b
    within_sound ts t (inr (t0, u, v, su, inl b, e)) n = rw (e, su.1) (deeper t0 v t n su.0 (cf.sound v t b (n + 1)))
    within_sound ts t (inr (t0, u, v, su, inr (a, x, y, sx, b, ey), e)) n = absurd b

    inner : (t0 : Terminal) (ts : List Terminal) (t : Terminal) (n : ℕ) → among t0.sort (o ∷ []) ≡ true → (seq f (one (c ∷ []))).begins (ts ++ t ∷ []) → Exceeds opening closing limits most (n + 1) ts t → (seq f (one (c ∷ []))).breaks ts t
    inner t0 ts t n k (inl b) x = inl (cf.exact ts t b (n + 1) x)
    inner t0 ts t n k (inr (a, u, v, su, bv, e)) x = elim (last ts t u v e) [
      | inl p ↦ absurd (not_last f most cf a ts t (subst (λ (l : List Terminal). f.spells a l) p.1 su) most (n + 1) ts x)
      | inr p ↦ absurd (at_close p.0 (subst (one (c ∷ [])).begins p.1 bv))
    ]
      where
        at_close : (z : List Terminal) → (one (c ∷ [])).begins (z ++ t ∷ []) → ⊥
        at_close [] (inl e) = cc
        at_close (h ∷ z) (inl e) = cc
        at_close [] (inr (b, j, e)) = let same : b ≡ t = cc in not_close t most (n + 1) ts (subst (λ (y : Terminal). among y.sort (c ∷ []) ≡ true) same j) x
        at_close (h ∷ []) (inr (b, j, e)) = cc
        at_close (h ∷ g ∷ z) (inr (b, j, e)) = cc

    within_exact : (ts : List Terminal) (t : Terminal) → within.begins (ts ++ t ∷ []) → (n : ℕ) → Exceeds opening closing limits (suc most) n ts t → within.breaks ts t
    within_exact [] t (inl (inl e)) n x = absurd cc
    within_exact (h ∷ ts) t (inl (inl e)) n x = absurd cc
    within_exact [] t (inl (inr (b, k, e))) n x = let same : b ≡ t = cc in absurd (not_first t n (subst (λ (y : Terminal). among y.sort (o ∷ []) ≡ true) same k) x)
    within_exact (h ∷ []) t (inl (inr (b, k, e))) n x = absurd cc
    within_exact (h ∷ g ∷ ts) t (inl (inr (b, k, e))) n x = absurd cc
    within_exact [] t (inr (t0, u, v, su, bv, e)) n x =
        let same : t0 ≡ t = first t0 v (e ∙ ap (λ (l : List Terminal). l ++ v) su.1) in
        absurd (not_first t n (subst (λ (y : Terminal). among y.sort (o ∷ []) ≡ true) same su.0) x)
      where
        first : (t0 : Terminal) (v : List Terminal) → t ∷ [] ≡ t0 ∷ v → t0 ≡ t
        first t0 v e = cc
    within_exact (h ∷ ts) t (inr (t0, u, v, su, bv, e)) n x =
        let all : h ∷ (ts ++ t ∷ []) ≡ t0 ∷ v = e ∙ ap (λ (l : List Terminal). l ++ v) su.1 in
        let same : t0 ≡ h = cc in
        let rest : v ≡ ts ++ t ∷ [] = cc in
        let opening_h : among h.sort (o ∷ []) ≡ true = subst (λ (y : Terminal). among y.sort (o ∷ []) ≡ true) same su.0 in
        inr (h, h ∷ [], ts, (opening_h, refl), inner h ts t n opening_h (subst (seq f (one (c ∷ []))).begins rest bv) (higher h ts t n opening_h x), refl)

    pub within_counts : Counts within (suc most)
    within_counts = record { whole = within_whole; clean = within_clean; sound = within_sound; exact = within_exact }
