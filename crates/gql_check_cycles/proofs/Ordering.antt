-- The steps of the ordering pass keep what it knows.
use Rattle.std.proofs.Common.{arith, ◌⊎◌, inl, inr, ⊎_elim, ◌≡◌, ◌<◌, ◌+◌, ◌-◌, ℕ, Bool, true, false, ◌++◌, List, [], ◌∷◌, length, set, replicate, refl, sym, ap, ◌∙◌, subst}
use Rattle.std.proofs.lemmas.List.{get_or-set_same, get_or-set_other, get_or_past, get_or_append_left, get_or_push, length_push, get_or-replicate, length-replicate}
use Rattle.std.proofs.lemmas.Bool.{cases_eq, cases_lt}
use Rattle.gql_check_cycles.specs.declared.order.Mark.{Mark}
use Rattle.gql_check_cycles.specs.declared.order.Mark.TheVariants.{New, Open, Done}
use Rattle.gql_check_cycles.specs.Graph.{Among, Reaches, directly, through}
use Rattle.gql_check_cycles.specs.Pass.{mark_of, edges_of, at, Ordered}
use Rattle.gql_check_cycles.proofs.Among.{among_push, onward}

-- what has a mark is within
pub within : (marks : List Mark) (x : ℕ) → (mark_of marks x ≡ New → ⊥) → x < length marks
within marks x h = ⊎_elim (λ l. l) (λ g. absurd (h (get_or_past marks x New g))) (cases_lt x (length marks))

pub open_within : (marks : List Mark) (x : ℕ) → mark_of marks x ≡ Open → x < length marks
open_within marks x o = within marks x (λ n. cc)

-- nothing leads out of what is done
stays : (next : ℕ → List ℕ) (marks : List Mark) → ((x b : ℕ) → mark_of marks x ≡ Done → Among b (next x) → mark_of marks b ≡ Done) → (goal x : ℕ) → Reaches next goal x → mark_of marks x ≡ Done → mark_of marks goal ≡ Done
stays next marks closed goal x (directly _ m) d = closed x goal d m
stays next marks closed goal x (through _ b m way) d = stays next marks closed goal b way (closed x b d m)

-- a mark that was written
module _ (marks : List Mark) (b : ℕ) (m : Mark) (l : b < length marks) where
  pub here : mark_of (set marks b m) b ≡ m
  here = get_or-set_same marks b m New l

  pub there : (x : ℕ) → (x ≡ b → ⊥) → mark_of (set marks b m) x ≡ mark_of marks x
  there x ne = get_or-set_other marks b x m New ne

  pub back : (x : ℕ) (n : Mark) → mark_of (set marks b m) x ≡ n → (m ≡ n → ⊥) → mark_of marks x ≡ n
  back x n e other = elim (cases_eq x b) [
    | inl q ↦ absurd (other (sym here ∙ (sym (ap (mark_of (set marks b m)) q) ∙ e)))
    | inr ne ↦ sym (there x ne) ∙ e
  ]

  pub ahead : (x : ℕ) (n : Mark) → mark_of marks x ≡ n → (mark_of marks b ≡ n → ⊥) → mark_of (set marks b m) x ≡ n
  ahead x n e other = elim (cases_eq x b) [
    | inl q ↦ absurd (other (sym (ap (mark_of marks) q) ∙ e))
    | inr ne ↦ there x ne ∙ e
  ]

-- a node that was pushed
module _ (stack : List ℕ) (b : ℕ) where
  pub place : (i : ℕ) → i < length (stack ++ b ∷ []) → (i < length stack) ⊎ (i ≡ length stack)
  place i k = elim (cases_lt i (length stack)) [ inl l ↦ inl l | inr g ↦ inr (omega (arith, length_push stack b)) ]

  pub old_at : (i : ℕ) → i < length stack → at (stack ++ b ∷ []) i ≡ at stack i
  old_at i l = get_or_append_left stack (b ∷ []) 0 i l

  pub new_at : (i : ℕ) → i ≡ length stack → at (stack ++ b ∷ []) i ≡ b
  new_at i e = get_or_push stack b 0 i (sym e)

module _ (next : ℕ → List ℕ) (marks : List Mark) (edges : List (List ℕ)) (stack : List ℕ) (cyclic : Bool) where
  -- one more open node, to which the last one leads
  pub opened : (b : ℕ) → Ordered next marks edges stack cyclic → b < length marks → mark_of marks b ≡ New → ((i : ℕ) → i + 1 ≡ length stack → Among b (next (at stack i))) → Ordered next (set marks b Open) edges (stack ++ b ∷ []) cyclic
  opened b h l new leads = record {
    fresh = λ x e. h.fresh x (back marks b Open l x New e (λ q. cc));
    complete = λ x e. h.complete x (was x e);
    marked = λ i k. elim (place stack b i k) [
      | inl q ↦ subst (λ y. mark_of (set marks b Open) y ≡ Open) (sym (old_at stack b i q)) (ahead marks b Open l (at stack i) Open (h.marked i q) (λ n. cc))
      | inr q ↦ subst (λ y. mark_of (set marks b Open) y ≡ Open) (sym (new_at stack b i q)) (here marks b Open l)
    ];
    stands = λ x e. elim (cases_eq x b) [
      | inl q ↦ (length stack, omega (arith, length_push stack b), new_at stack b (length stack) refl ∙ sym q)
      | inr ne ↦ let s = h.stands x (sym (there marks b Open l x ne) ∙ e) in (s.0, omega (arith, s.1, length_push stack b), old_at stack b s.0 s.1 ∙ s.2)
    ];
    apart = λ i j k m e. elim (place stack b j m) [
      | inl q ↦ h.apart i j k q (sym (old_at stack b i (omega arith)) ∙ (e ∙ old_at stack b j q))
      | inr q ↦ not_new i (omega arith) (sym (old_at stack b i (omega arith)) ∙ (e ∙ new_at stack b j q))
    ];
    path = λ i j k m. elim (place stack b j m) [
      | inl q ↦ subst (λ y. Reaches next y (at (stack ++ b ∷ []) i)) (sym (old_at stack b j q)) (subst (Reaches next (at stack j)) (sym (old_at stack b i (omega arith))) (h.path i j k q))
      | inr q ↦ subst (λ y. Reaches next y (at (stack ++ b ∷ []) i)) (sym (new_at stack b j q)) (subst (Reaches next b) (sym (old_at stack b i (omega arith))) (to_new i (omega arith)))
    ];
    settled = λ c i d k m. elim (place stack b i k) [
      | inl q ↦ elim (h.settled c i d q (subst (λ y. Among d (edges_of edges y)) (old_at stack b i q) m)) [
        | inl e ↦ inl (still d e)
        | inr p ↦ inr (omega (arith, p.0, length_push stack b), old_at stack b (i + 1) p.0 ∙ p.1)
      ]
      | inr q ↦ absurd (subst (Among d) (h.fresh b new) (subst (λ y. Among d (edges_of edges y)) (new_at stack b i q) m))
    ];
    closed = λ c x d e m. still d (h.closed c x d (was x e) m);
    acyclic = λ c x e. h.acyclic c x (was x e);
    cycle = h.cycle;
  }
    where
      was : (x : ℕ) → mark_of (set marks b Open) x ≡ Done → mark_of marks x ≡ Done
      was x e = back marks b Open l x Done e (λ q. cc)

      still : (x : ℕ) → mark_of marks x ≡ Done → mark_of (set marks b Open) x ≡ Done
      still x e = ahead marks b Open l x Done e (λ q. cc)

      not_new : (i : ℕ) → i < length stack → at stack i ≡ b → ⊥
      not_new i k e = let o : mark_of marks b ≡ Open = sym (ap (mark_of marks) e) ∙ h.marked i k in cc

      to_new : (i : ℕ) → i < length stack → Reaches next b (at stack i)
      to_new i k = elim (cases_lt (i + 1) (length stack)) [
        | inl p ↦ onward next (at stack (length stack - 1)) b (at stack i) (h.path i (length stack - 1) (omega arith) (omega arith)) (leads (length stack - 1) (omega arith))
        | inr g ↦ directly (at stack i) (leads i (omega arith))
      ]

  -- the last one leads to an open one: a cycle
  pub met : (b i : ℕ) → Ordered next marks edges stack cyclic → mark_of marks b ≡ Open → i + 1 ≡ length stack → Among b (next (at stack i)) → Ordered next marks edges stack true
  met b i h o top m = record {
    fresh = h.fresh;
    complete = h.complete;
    marked = h.marked;
    stands = h.stands;
    apart = h.apart;
    path = h.path;
    settled = λ c. cc;
    closed = λ c. cc;
    acyclic = λ c. cc;
    cycle = λ _. (b, round (h.stands b o));
  }
    where
      round : (j : ℕ) × (j < length stack) × (at stack j ≡ b) → Reaches next b b
      round (j, k, e) = elim (cases_lt j i) [
        | inl l ↦ subst (Reaches next b) e (onward next (at stack i) b (at stack j) (h.path j i l (omega arith)) m)
        | inr g ↦ let same : j ≡ i = omega arith in directly b (subst (λ y. Among b (next y)) (sym (ap (at stack) same) ∙ e) m)
      ]

  -- an edge of an open one is stored
  pub added : (a b i : ℕ) → Ordered next marks edges stack cyclic → a < length edges → i < length stack → at stack i ≡ a → (cyclic ≡ false → (mark_of marks b ≡ Done) ⊎ ((i + 1 < length stack) × (at stack (i + 1) ≡ b))) → Ordered next marks (set edges a (edges_of edges a ++ b ∷ [])) stack cyclic
  added a b i h l k e pending = record {
    fresh = λ x n. others x New n (λ q. cc) ∙ h.fresh x n;
    complete = λ x n. others x Done n (λ q. cc) ∙ h.complete x n;
    marked = h.marked;
    stands = h.stands;
    apart = h.apart;
    path = h.path;
    settled = λ c j d p m. elim (cases_eq (at stack j) a) [
      | inl q ↦ elim (among_push d b (edges_of edges a) (subst (Among d) (get_or-set_same edges a (edges_of edges a ++ b ∷ []) [] l) (subst (λ y. Among d (edges_of (set edges a (edges_of edges a ++ b ∷ [])) y)) q m))) [
        | inl n ↦ h.settled c j d p (subst (λ y. Among d (edges_of edges y)) (sym q) n)
        | inr n ↦ let same : i ≡ j = one i j k p (e ∙ sym q) in subst (λ z. (mark_of marks z ≡ Done) ⊎ ((j + 1 < length stack) × (at stack (j + 1) ≡ z))) (sym n) (subst (λ z. (mark_of marks b ≡ Done) ⊎ ((z + 1 < length stack) × (at stack (z + 1) ≡ b))) same (pending c))
      ]
      | inr ne ↦ h.settled c j d p (subst (Among d) (get_or-set_other edges a (at stack j) (edges_of edges a ++ b ∷ []) [] ne) m)
    ];
    closed = h.closed;
    acyclic = h.acyclic;
    cycle = h.cycle;
  }
    where
      is_open : mark_of marks a ≡ Open
      is_open = sym (ap (mark_of marks) e) ∙ h.marked i k

      others : (x : ℕ) (n : Mark) → mark_of marks x ≡ n → (n ≡ Open → ⊥) → edges_of (set edges a (edges_of edges a ++ b ∷ [])) x ≡ edges_of edges x
      others x n q other = get_or-set_other edges a x (edges_of edges a ++ b ∷ []) [] (λ s. other (sym q ∙ (ap (mark_of marks) s ∙ is_open)))

      one : (i j : ℕ) → i < length stack → j < length stack → at stack i ≡ at stack j → i ≡ j
      one i j k p s = elim (cases_lt i j) [
        | inl q ↦ absurd (h.apart i j q p s)
        | inr g ↦ elim (cases_lt j i) [ inl q ↦ absurd (h.apart j i q k (sym s)) | inr f ↦ omega arith ]
      ]

-- the last open one is done, once all its edges are stored
pub finished : (next : ℕ → List ℕ) (marks : List Mark) (edges : List (List ℕ)) (rest : List ℕ) (a : ℕ) (cyclic : Bool) → Ordered next marks edges (rest ++ a ∷ []) cyclic → edges_of edges a ≡ next a → Ordered next (set marks a Done) edges rest cyclic
finished next marks edges rest a cyclic h all = record {
  fresh = λ x e. h.fresh x (back marks a Done l x New e (λ q. cc));
  complete = λ x e. elim (cases_eq x a) [
    | inl q ↦ subst (λ y. edges_of edges y ≡ next y) (sym q) all
    | inr ne ↦ h.complete x (sym (there marks a Done l x ne) ∙ e)
  ];
  marked = λ i k. there marks a Done l (at rest i) (λ q. h.apart i (length rest) k last (old_at rest a i k ∙ (q ∙ sym top))) ∙ (sym (ap (mark_of marks) (old_at rest a i k)) ∙ h.marked i (omega (arith, length_push rest a)));
  stands = λ x e. below x (h.stands x (back marks a Done l x Open e (λ q. cc))) e;
  apart = λ i j k m e. h.apart i j k (omega (arith, length_push rest a)) (old_at rest a i (omega arith) ∙ (e ∙ sym (old_at rest a j m)));
  path = λ i j k m. subst (λ y. Reaches next y (at rest i)) (old_at rest a j m) (subst (Reaches next (at (rest ++ a ∷ []) j)) (old_at rest a i (omega arith)) (h.path i j k (omega (arith, length_push rest a))));
  settled = λ c i d k m. elim (h.settled c i d (omega (arith, length_push rest a)) (subst (λ y. Among d (edges_of edges y)) (sym (old_at rest a i k)) m)) [
    | inl e ↦ inl (still d e)
    | inr p ↦ elim (place rest a (i + 1) p.0) [
      | inl q ↦ inr (q, sym (old_at rest a (i + 1) q) ∙ p.1)
      | inr q ↦ inl (subst (λ y. mark_of (set marks a Done) y ≡ Done) (sym (new_at rest a (i + 1) q) ∙ p.1) (here marks a Done l))
    ]
  ];
  closed = λ c x d e m. elim (cases_eq x a) [
    | inl q ↦ still d (leads c d (subst (λ y. Among d (next y)) q m))
    | inr ne ↦ still d (h.closed c x d (sym (there marks a Done l x ne) ∙ e) m)
  ];
  acyclic = λ c x e way. elim (cases_eq x a) [
    | inl q ↦ no_way c (subst (λ y. Reaches next y y) q way)
    | inr ne ↦ h.acyclic c x (sym (there marks a Done l x ne) ∙ e) way
  ];
  cycle = h.cycle;
}
  where
    last : length rest < length (rest ++ a ∷ [])
    last = omega (arith, length_push rest a)

    top : at (rest ++ a ∷ []) (length rest) ≡ a
    top = new_at rest a (length rest) refl

    is_open : mark_of marks a ≡ Open
    is_open = sym (ap (mark_of marks) top) ∙ h.marked (length rest) last

    l : a < length marks
    l = open_within marks a is_open

    still : (x : ℕ) → mark_of marks x ≡ Done → mark_of (set marks a Done) x ≡ Done
    still x e = ahead marks a Done l x Done e (λ q. cc is_open)

    below : (x : ℕ) → (i : ℕ) × (i < length (rest ++ a ∷ [])) × (at (rest ++ a ∷ []) i ≡ x) → mark_of (set marks a Done) x ≡ Open → (i : ℕ) × (i < length rest) × (at rest i ≡ x)
    below x (i, k, e) o = elim (place rest a i k) [
      | inl q ↦ (i, q, sym (old_at rest a i q) ∙ e)
      | inr q ↦ let same : a ≡ x = sym (new_at rest a i q) ∙ e in let d : mark_of (set marks a Done) x ≡ Done = sym (ap (mark_of (set marks a Done)) same) ∙ here marks a Done l in cc
    ]

    -- all that the finished one leads to was done
    leads : cyclic ≡ false → (d : ℕ) → Among d (next a) → mark_of marks d ≡ Done
    leads c d m = elim (h.settled c (length rest) d last (subst (λ y. Among d (edges_of edges y)) (sym top) (subst (Among d) (sym all) m))) [
      | inl e ↦ e
      | inr p ↦ absurd (omega (arith, p.0, length_push rest a))
    ]

    no_way : cyclic ≡ false → Reaches next a a → ⊥
    no_way c (directly _ m) = let d = leads c a m in cc is_open
    no_way c (through _ b m way) = let d = stays next marks (h.closed c) a b way (leads c b m) in cc is_open

-- before the first node
pub begun : (next : ℕ → List ℕ) (n : ℕ) → Ordered next (replicate n New) (replicate n []) [] false
begun next n = record {
  fresh = λ x e. elim (cases_lt x n) [ inl l ↦ get_or-replicate n x [] [] l | inr g ↦ get_or_past (replicate n []) x [] (omega (arith, length-replicate {A = List ℕ} n [])) ];
  complete = λ x e. absurd (none x Done e (λ q. cc));
  marked = λ i k. absurd (omega arith);
  stands = λ x e. absurd (none x Open e (λ q. cc));
  apart = λ i j k m. absurd (omega arith);
  path = λ i j k m. absurd (omega arith);
  settled = λ c i b k. absurd (omega arith);
  closed = λ c x b e. absurd (none x Done e (λ q. cc));
  acyclic = λ c x e. absurd (none x Done e (λ q. cc));
  cycle = λ c. cc;
}
  where
    none : (x : ℕ) (m : Mark) → mark_of (replicate n New) x ≡ m → (m ≡ New → ⊥) → ⊥
    none x m e other = elim (cases_lt x n) [
      | inl l ↦ other (sym e ∙ get_or-replicate n x New New l)
      | inr g ↦ other (sym e ∙ get_or_past (replicate n New) x New (omega (arith, length-replicate n New)))
    ]
