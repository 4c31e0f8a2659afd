-- The steps of the ordering pass, with how far the fields were looked at.
use Rattle.std.proofs.Common.{arith, inl, inr, ◌≡◌, ◌<◌, ◌≤◌, ◌+◌, ◌-◌, ℕ, zero, suc, Bool, true, false, ◌++◌, List, [], ◌∷◌, length, get_or, set, take, replicate, Option, Some, None, refl, sym, ap, ◌∙◌, subst}
use Rattle.std.proofs.lemmas.List.{get_or-set_same, get_or-set_other, get_or_past, take_more, take_all, append-nil, length-set, length_push, set-get_or, get_or-replicate, length-replicate}
use Rattle.std.proofs.lemmas.List.Concat.{flat_map-append}
use Rattle.std.proofs.lemmas.Bool.{cases_eq, cases_lt}
use Rattle.gql_check_cycles.specs.declared.order.Mark.{Mark}
use Rattle.gql_check_cycles.specs.declared.order.Mark.TheVariants.{New, Open, Done}
use Rattle.gql_check_cycles.specs.Graph.{Among, one_or_none, targets, fields_of, needs, unlooked, IsWithin, Reaches, directly, through}
use Rattle.gql_check_cycles.specs.Pass.{mark_of, edges_of, at, Ordered, Passing, Keeps, Followed, Taken, IsTop, IsInside, Answers}
use Rattle.gql_check_cycles.proofs.Ordering.{opened, met, added, finished, begun, here, there, open_within, old_at, new_at}
use Rattle.gql_check_cycles.proofs.Sums.{weighted_sum-set}
use Rattle.gql_check_cycles.proofs.Among.{among_left, among_right}

-- one more field
targets_more : (fields : List (Option ℕ)) (k : ℕ) → k < length fields → targets (take (k + 1) fields) ≡ targets (take k fields) ++ one_or_none (get_or fields k None)
targets_more fields k l = ap targets (take_more fields k None l) ∙ (flat_map-append one_or_none (take k fields) (get_or fields k None ∷ []) ∙ ap (λ xs. targets (take k fields) ++ xs) (append-nil (one_or_none (get_or fields k None))))

pub among_target : (fields : List (Option ℕ)) (k b : ℕ) → get_or fields k None ≡ Some b → Among b (targets fields)
among_target [] k b e = cc e
among_target (f ∷ fields) zero b e = among_left b (one_or_none f) (targets fields) (subst (λ o. Among b (one_or_none o)) (sym e) (inl refl))
among_target (f ∷ fields) (suc k) b e = among_right b (one_or_none f) (targets fields) (among_target fields k b e)

pub Keeps-same : (marks : List Mark) → Keeps marks marks
Keeps-same marks x h = h

pub Keeps-then : (a b c : List Mark) → Keeps a b → Keeps b c → Keeps a c
Keeps-then a b c h k x n = k x (h x n)

pub Keeps-set : (marks : List Mark) (b : ℕ) (m : Mark) → b < length marks → (m ≡ New → ⊥) → Keeps marks (set marks b m)
Keeps-set marks b m l other x h e = elim (cases_eq x b) [
  | inl q ↦ other (sym (here marks b m l) ∙ (sym (ap (mark_of (set marks b m)) q) ∙ e))
  | inr ne ↦ h (sym (there marks b m l x ne) ∙ e)
]

followed_len : (m : Mark) (b : ℕ) (marks marks' : List Mark) (stack stack' : List ℕ) (cyclic cyclic' : Bool) → Followed m b marks marks' stack stack' cyclic cyclic' → length marks' ≡ length marks
followed_len New b marks marks' stack stack' cyclic cyclic' f = ap length f.0 ∙ length-set marks b Open
followed_len Open b marks marks' stack stack' cyclic cyclic' f = ap length f.0
followed_len Done b marks marks' stack stack' cyclic cyclic' f = ap length f.0

followed_keeps : (m : Mark) (b : ℕ) (marks marks' : List Mark) (stack stack' : List ℕ) (cyclic cyclic' : Bool) → b < length marks → Followed m b marks marks' stack stack' cyclic cyclic' → Keeps marks marks'
followed_keeps New b marks marks' stack stack' cyclic cyclic' l f = subst (Keeps marks) (sym f.0) (Keeps-set marks b Open l (λ q. cc))
followed_keeps Open b marks marks' stack stack' cyclic cyclic' l f = subst (Keeps marks) (sym f.0) (Keeps-same marks)
followed_keeps Done b marks marks' stack stack' cyclic cyclic' l f = subst (Keeps marks) (sym f.0) (Keeps-same marks)

pub taken_keeps : (field : Option ℕ) (a : ℕ) (marks marks' : List Mark) (edges edges' : List (List ℕ)) (stack stack' : List ℕ) (cyclic cyclic' : Bool) → IsInside field (length marks) → Taken field a marks marks' edges edges' stack stack' cyclic cyclic' → Keeps marks marks'
taken_keeps None a marks marks' edges edges' stack stack' cyclic cyclic' i f = subst (Keeps marks) (sym f.0) (Keeps-same marks)
taken_keeps (Some b) a marks marks' edges edges' stack stack' cyclic cyclic' i f = followed_keeps (mark_of marks b) b marks marks' stack stack' cyclic cyclic' i f.0

followed_stack : (m : Mark) (b : ℕ) (marks marks' : List Mark) (stack stack' : List ℕ) (cyclic cyclic' : Bool) → Followed m b marks marks' stack stack' cyclic cyclic' → length stack' ≤ length stack + 1
followed_stack New b marks marks' stack stack' cyclic cyclic' f = omega (arith, ap length f.1, length_push stack b)
followed_stack Open b marks marks' stack stack' cyclic cyclic' f = omega (arith, ap length f.1)
followed_stack Done b marks marks' stack stack' cyclic cyclic' f = omega (arith, ap length f.1)

pub taken_stack : (field : Option ℕ) (a : ℕ) (marks marks' : List Mark) (edges edges' : List (List ℕ)) (stack stack' : List ℕ) (cyclic cyclic' : Bool) → Taken field a marks marks' edges edges' stack stack' cyclic cyclic' → length stack' ≤ length stack + 1
taken_stack None a marks marks' edges edges' stack stack' cyclic cyclic' f = omega (arith, ap length f.2)
taken_stack (Some b) a marks marks' edges edges' stack stack' cyclic cyclic' f = followed_stack (mark_of marks b) b marks marks' stack stack' cyclic cyclic' f.0

pub is_inside : (g : List (List (Option ℕ))) (a k : ℕ) (field : Option ℕ) → IsWithin g → get_or (fields_of g a) k None ≡ field → IsInside field (length g)
is_inside g a k None w e = tt
is_inside g a k (Some b) w e = w a b (among_target (fields_of g a) k b e)

module _ (g : List (List (Option ℕ))) (marks : List Mark) (looked : List ℕ) (edges : List (List ℕ)) (stack : List ℕ) (cyclic : Bool) where
  pub top_within : (a : ℕ) → Passing g marks looked edges stack cyclic → IsTop stack a → a < length g
  top_within a h t = subst (λ n. a < n) h.marks_len (open_within marks a (subst (λ y. mark_of marks y ≡ Open) t.1 (h.ordered.marked (length stack - 1) (omega (arith, t.0)))))

  last_leads : (a b : ℕ) → IsTop stack a → Among b (needs g a) → (i : ℕ) → i + 1 ≡ length stack → Among b (needs g (at stack i))
  last_leads a b t m i e = let s : i ≡ length stack - 1 = omega arith in subst (λ y. Among b (needs g y)) (sym (ap (at stack) s ∙ t.1)) m

  -- an edge from the last open node is followed
  pub follows : (a b : ℕ) (m : Mark) → Ordered (needs g) marks edges stack cyclic → IsTop stack a → Among b (needs g a) → b < length marks → a < length edges → mark_of marks b ≡ m
      → (marks' : List Mark) (stack' : List ℕ) (cyclic' : Bool) → Followed m b marks marks' stack stack' cyclic cyclic' → Ordered (needs g) marks' (set edges a (edges_of edges a ++ b ∷ [])) stack' cyclic'
  follows a b New h t m l k e marks' stack' cyclic' (p, q, r) = rw (p, q, r) (added (needs g) (set marks b Open) edges (stack ++ b ∷ []) cyclic a b (length stack - 1)
      (opened (needs g) marks edges stack cyclic b h l e (last_leads a b t m)) k (omega (arith, t.0, length_push stack b)) (old_at stack b (length stack - 1) (omega (arith, t.0)) ∙ t.1)
      (λ _. inr (omega (arith, t.0, length_push stack b), new_at stack b (length stack - 1 + 1) (omega (arith, t.0)))))
  follows a b Open h t m l k e marks' stack' cyclic' (p, q, r) = rw (p, q, r) (added (needs g) marks edges stack true a b (length stack - 1)
      (met (needs g) marks edges stack cyclic b (length stack - 1) h e (omega (arith, t.0)) (subst (λ y. Among b (needs g y)) (sym t.1) m)) k (omega (arith, t.0)) t.1 (λ c. cc))
  follows a b Done h t m l k e marks' stack' cyclic' (p, q, r) = rw (p, q, r) (added (needs g) marks edges stack cyclic a b (length stack - 1) h k (omega (arith, t.0)) t.1 (λ _. inl e))

  -- a field of the last open node is taken
  pub takes : (a : ℕ) (field : Option ℕ) → Passing g marks looked edges stack cyclic → IsTop stack a → IsInside field (length g) → get_or looked a 0 < length (fields_of g a) → get_or (fields_of g a) (get_or looked a 0) None ≡ field
      → (marks' : List Mark) (edges' : List (List ℕ)) (stack' : List ℕ) (cyclic' : Bool) → Taken field a marks marks' edges edges' stack stack' cyclic cyclic' → Ordered (needs g) marks' edges' stack' cyclic' × (edges' ≡ set edges a (edges_of edges a ++ one_or_none field)) × (length marks' ≡ length marks)
  takes a None h t i l e marks' edges' stack' cyclic' (p, q, r, c) = rw (p, q, r, c) (h.ordered, sym (ap (set edges a) (append-nil (edges_of edges a)) ∙ set-get_or edges a []), refl)
  takes a (Some b) h t i l e marks' edges' stack' cyclic' (f, q) = rw q (
    follows a b (mark_of marks b) h.ordered t (among_target (fields_of g a) (get_or looked a 0) b e) (subst (λ n. b < n) (sym h.marks_len) i) (subst (λ n. a < n) (sym h.edges_len) (top_within a h t)) refl marks' stack' cyclic' f,
    refl,
    followed_len (mark_of marks b) b marks marks' stack stack' cyclic cyclic' f,
  )

  pub looks : (a : ℕ) (field : Option ℕ) → Passing g marks looked edges stack cyclic → IsTop stack a → IsInside field (length g) → get_or looked a 0 < length (fields_of g a) → get_or (fields_of g a) (get_or looked a 0) None ≡ field
      → (marks' : List Mark) (looked' : List ℕ) (edges' : List (List ℕ)) (stack' : List ℕ) (cyclic' : Bool) → looked' ≡ set looked a (get_or looked a 0 + 1) → Taken field a marks marks' edges edges' stack stack' cyclic cyclic' → Passing g marks' looked' edges' stack' cyclic'
  looks a field h t i l e marks' looked' edges' stack' cyclic' s f =
      let all : Ordered (needs g) marks' edges' stack' cyclic' × (edges' ≡ set edges a (edges_of edges a ++ one_or_none field)) × (length marks' ≡ length marks) = takes a field h t i l e marks' edges' stack' cyclic' f in
      record {
        marks_len = all.2 ∙ h.marks_len;
        looked_len = ap length s ∙ (length-set looked a (get_or looked a 0 + 1) ∙ h.looked_len);
        edges_len = ap length all.1 ∙ (length-set edges a (edges_of edges a ++ one_or_none field) ∙ h.edges_len);
        ordered = all.0;
        stored = λ x. rw (s, all.1) (stored_at x);
        limit = λ x. rw s (limit_at x);
      }
    where
      inside : a < length looked
      inside = subst (λ n. a < n) (sym h.looked_len) (top_within a h t)

      inside_edges : a < length edges
      inside_edges = subst (λ n. a < n) (sym h.edges_len) (top_within a h t)

      limit_at : (x : ℕ) → get_or (set looked a (get_or looked a 0 + 1)) x 0 ≤ length (fields_of g x)
      limit_at x = elim (cases_eq x a) [
        | inl q ↦ subst (λ y. get_or (set looked a (get_or looked a 0 + 1)) y 0 ≤ length (fields_of g y)) (sym q) (rw (get_or-set_same looked a (get_or looked a 0 + 1) 0 inside) (omega (arith, l)))
        | inr ne ↦ rw (get_or-set_other looked a x (get_or looked a 0 + 1) 0 ne) (h.limit x)
      ]

      stored_at : (x : ℕ) → edges_of (set edges a (edges_of edges a ++ one_or_none field)) x ≡ targets (take (get_or (set looked a (get_or looked a 0 + 1)) x 0) (fields_of g x))
      stored_at x = elim (cases_eq x a) [
        | inl q ↦ subst (λ y. edges_of (set edges a (edges_of edges a ++ one_or_none field)) y ≡ targets (take (get_or (set looked a (get_or looked a 0 + 1)) y 0) (fields_of g y))) (sym q)
            (get_or-set_same edges a (edges_of edges a ++ one_or_none field) [] inside_edges
            ∙ (ap (λ xs. xs ++ one_or_none field) (h.stored a)
            ∙ (ap (λ o. targets (take (get_or looked a 0) (fields_of g a)) ++ one_or_none o) (sym e)
            ∙ (sym (targets_more (fields_of g a) (get_or looked a 0) l)
            ∙ ap (λ n. targets (take n (fields_of g a))) (sym (get_or-set_same looked a (get_or looked a 0 + 1) 0 inside))))))
        | inr ne ↦ get_or-set_other edges a x (edges_of edges a ++ one_or_none field) [] ne ∙ (h.stored x ∙ ap (λ n. targets (take n (fields_of g x))) (sym (get_or-set_other looked a x (get_or looked a 0 + 1) 0 ne)))
      ]

  pub looks_at : (a k : ℕ) (field : Option ℕ) → k ≡ get_or looked a 0 → Passing g marks looked edges stack cyclic → IsTop stack a → IsWithin g → k < length (fields_of g a) → field ≡ get_or (fields_of g a) k None
      → (marks' : List Mark) (looked' : List ℕ) (edges' : List (List ℕ)) (stack' : List ℕ) (cyclic' : Bool) → looked' ≡ set looked a (k + 1) → Taken field a marks marks' edges edges' stack stack' cyclic cyclic' → Passing g marks' looked' edges' stack' cyclic'
  looks_at a k field q h t w l e marks' looked' edges' stack' cyclic' s f = looks a field h t (is_inside g a k field w (sym e)) (subst (λ n. n < length (fields_of g a)) q l) (subst (λ n. get_or (fields_of g a) n None ≡ field) q (sym e))
      marks' looked' edges' stack' cyclic' (subst (λ n. looked' ≡ set looked a (n + 1)) q s) f

  -- the last open node has no more fields
  pub finishes : (a : ℕ) → Passing g marks looked edges stack cyclic → IsTop stack a → length (fields_of g a) ≤ get_or looked a 0 → (rest : List ℕ) (y : ℕ) → stack ≡ rest ++ y ∷ [] → (marks' : List Mark) (stack' : List ℕ) → marks' ≡ set marks a Done → stack' ≡ rest → Passing g marks' looked edges stack' cyclic
  finishes a h t l rest y s marks' stack' p q = rw (p, q) (record {
    marks_len = length-set marks a Done ∙ h.marks_len;
    looked_len = h.looked_len;
    edges_len = h.edges_len;
    ordered = finished (needs g) marks edges rest a cyclic (subst (λ z. Ordered (needs g) marks edges (rest ++ z ∷ []) cyclic) same (subst (λ z. Ordered (needs g) marks edges z cyclic) s h.ordered)) (h.stored a ∙ ap targets (take_all (get_or looked a 0) (fields_of g a) l));
    stored = h.stored;
    limit = h.limit;
  })
    where
      same : y ≡ a
      same = sym (new_at rest y (length stack - 1) (omega (arith, ap length s, length_push rest y))) ∙ (sym (ap (λ z. at z (length stack - 1)) s) ∙ t.1)

  -- the same with all that stays
  pub closes : (a : ℕ) → Passing g marks looked edges stack cyclic → IsTop stack a → length (fields_of g a) ≤ get_or looked a 0 → (marks' : List Mark) (looked' : List ℕ) (edges' : List (List ℕ)) (stack' : List ℕ) (cyclic' : Bool)
      → marks' ≡ set marks a Done → (y : ℕ) × (stack ≡ stack' ++ y ∷ []) → looked' ≡ looked → edges' ≡ edges → cyclic' ≡ cyclic → Passing g marks' looked' edges' stack' cyclic' × Keeps marks marks'
  closes a h t l marks' looked' edges' stack' cyclic' m s p q r = (
    rw (p, q, r) (finishes a h t l stack' s.0 s.1 marks' stack' m refl),
    subst (Keeps marks) (sym m) (Keeps-set marks a Done (subst (λ n. a < n) (sym h.marks_len) (top_within a h t)) (λ e. cc)),
  )

  -- a root is opened
  pub begins : (b : ℕ) → Passing g marks looked edges stack cyclic → length stack ≡ 0 → b < length marks → mark_of marks b ≡ New → (marks' : List Mark) (stack' : List ℕ) → marks' ≡ set marks b Open → stack' ≡ stack ++ b ∷ [] → Passing g marks' looked edges stack' cyclic
  begins b h z l e marks' stack' p q = rw (p, q) (record {
    marks_len = length-set marks b Open ∙ h.marks_len;
    looked_len = h.looked_len;
    edges_len = h.edges_len;
    ordered = opened (needs g) marks edges stack cyclic b h.ordered l e (λ i k. absurd (omega arith));
    stored = h.stored;
    limit = h.limit;
  })

  -- a look leaves one field less
  pub less : (a k : ℕ) → k ≡ get_or looked a 0 → Passing g marks looked edges stack cyclic → IsTop stack a → k < length (fields_of g a) → (looked' : List ℕ) → looked' ≡ set looked a (k + 1) → unlooked g looked' + 1 ≡ unlooked g looked
  less a k q h t m looked' s = let l : a < length g = top_within a h t in rw s (omega (arith, m, q, weighted_sum-set (λ (fields : List (Option ℕ)) (n : ℕ). length fields - n) 0 [] g looked a (k + 1) l (subst (λ n. a < n) (sym h.looked_len) l)))

  -- at the end
  pub ends : Passing g marks looked edges stack cyclic → length stack ≡ 0 → ((x : ℕ) → x < length g → mark_of marks x ≡ New → ⊥) → Answers g cyclic edges
  ends h z all = (edges_at, λ c x way. no_way c x way, h.ordered.cycle, h.edges_len)
    where
      pick : (m : Mark) → (x : ℕ) → mark_of marks x ≡ m → (m ≡ New → ⊥) → mark_of marks x ≡ Done
      pick New x e n = absurd (n refl)
      pick Open x e n = let s = h.ordered.stands x e in absurd (omega (arith, s.1))
      pick Done x e n = e

      done : (x : ℕ) → x < length g → mark_of marks x ≡ Done
      done x l = pick (mark_of marks x) x refl (all x l)

      past : (x : ℕ) → length g ≤ x → needs g x ≡ []
      past x l = ap targets (get_or_past g x [] l)

      edges_at : (x : ℕ) → edges_of edges x ≡ needs g x
      edges_at x = elim (cases_lt x (length g)) [
        | inl l ↦ h.ordered.complete x (done x l)
        | inr l ↦ get_or_past edges x [] (subst (λ n. n ≤ x) (sym h.edges_len) l) ∙ sym (past x l)
      ]

      nowhere : (x : ℕ) → length g ≤ x → Reaches (needs g) x x → ⊥
      nowhere x l (directly _ m) = subst (Among x) (past x l) m
      nowhere x l (through _ b m way) = subst (Among b) (past x l) m

      no_way : cyclic ≡ false → (x : ℕ) → Reaches (needs g) x x → ⊥
      no_way c x way = elim (cases_lt x (length g)) [
        | inl l ↦ h.ordered.acyclic c x (done x l) way
        | inr l ↦ nowhere x l way
      ]

-- before the first root
pub starts : (g : List (List (Option ℕ))) → Passing g (replicate (length g) New) (replicate (length g) 0) (replicate (length g) []) [] false
starts g = record {
  marks_len = length-replicate (length g) New;
  looked_len = length-replicate {A = ℕ} (length g) 0;
  edges_len = length-replicate {A = List ℕ} (length g) [];
  ordered = begun (needs g) (length g);
  stored = λ x. at_first x;
  limit = λ x. rw (zero_at x) (omega arith);
}
  where
    zero_at : (x : ℕ) → get_or (replicate {A = ℕ} (length g) 0) x 0 ≡ 0
    zero_at x = elim (cases_lt x (length g)) [ inl l ↦ get_or-replicate {A = ℕ} (length g) x 0 0 l | inr l ↦ get_or_past (replicate (length g) 0) x 0 (omega (arith, length-replicate {A = ℕ} (length g) 0)) ]

    none_at : (x : ℕ) → edges_of (replicate (length g) []) x ≡ []
    none_at x = elim (cases_lt x (length g)) [ inl l ↦ get_or-replicate (length g) x [] [] l | inr l ↦ get_or_past (replicate (length g) []) x [] (omega (arith, length-replicate {A = List ℕ} (length g) [])) ]

    at_first : (x : ℕ) → edges_of (replicate (length g) []) x ≡ targets (take (get_or (replicate (length g) 0) x 0) (fields_of g x))
    at_first x = none_at x ∙ ap (λ n. targets (take n (fields_of g x))) (sym (zero_at x))
