-- The steps of a search keep what it knows.
use Rattle.std.proofs.Common.{arith, ◌⊎◌, inl, inr, ◌≡◌, ◌<◌, ◌≤◌, ◌+◌, ◌*◌, ℕ, zero, suc, Bool, true, false, cond, ◌++◌, List, [], ◌∷◌, length, get_or, set, take, drop, replicate, Option, Some, None, refl, sym, ap, ◌∙◌, subst}
use Rattle.std.proofs.lemmas.List.{get_or-set_same, get_or-set_other, get_or_past, get_or-replicate, length-replicate, length-append, take_more, drop_more}
use Rattle.std.proofs.lemmas.Bool.{cases_eq, cases_lt}
use Rattle.gql_check_cycles.specs.Graph.{Among, Reaches, directly, through, targets, field_total, IsWithin, needs, IsFirst, nonempty_count, row_cost}
use Rattle.gql_check_cycles.specs.Pass.{edges_of}
use Rattle.gql_check_cycles.specs.Search.{is_seen, From, Searching, Visited, Found, Looked, unread, room, edge_total, AllWithin}
use Rattle.gql_check_cycles.proofs.Among.{among_append, among_left, among_right, among_push, onward, along}
use Rattle.gql_check_cycles.proofs.Sums.{weighted_sum-set}

different : true ≡ false → ⊥
different e = cc e

pub among_at : (xs : List ℕ) (i : ℕ) → i < length xs → Among (get_or xs i 0) xs
among_at [] i l = absurd (omega arith)
among_at (x ∷ xs) zero l = inl refl
among_at (x ∷ xs) (suc i) l = inr (among_at xs i (omega arith))

pub away_more : (xs : List ℕ) (i start : ℕ) → i < length xs → (Among start (take i xs) → ⊥) → (get_or xs i 0 ≡ start → ⊥) → Among start (take (i + 1) xs) → ⊥
away_more xs i start l away other m = elim (among_push start (get_or xs i 0) (take i xs) (subst (Among start) (take_more xs i 0 l) m)) [ inl k ↦ away k | inr e ↦ other (sym e) ]

module _ (seen : List Bool) (n : ℕ) where
  pub seen_more : (x : ℕ) → is_seen seen x ≡ true → n < length seen → is_seen (set seen n true) x ≡ true
  seen_more x e l = elim (cases_eq x n) [
    | inl q ↦ subst (λ y. is_seen (set seen n true) y ≡ true) (sym q) (get_or-set_same seen n true false l)
    | inr ne ↦ get_or-set_other seen n x true false ne ∙ e
  ]

  pub seen_was : (x : ℕ) → is_seen (set seen n true) x ≡ true → (x ≡ n) ⊎ (is_seen seen x ≡ true)
  seen_was x e = elim (cases_eq x n) [
    | inl q ↦ inl q
    | inr ne ↦ inr (sym (get_or-set_other seen n x true false ne) ∙ e)
  ]

module _ (next : ℕ → List ℕ) (start : ℕ) where
  from_step : (x c : ℕ) → From next start x → Among c (next x) → Reaches next c start
  from_step x c (inl e) m = subst (Reaches next c) e (directly x m)
  from_step x c (inr way) m = onward next x c start way m

  pub visit_found : (seen : List Bool) (rest : List ℕ) (n : ℕ) → Searching next start seen (rest ++ n ∷ []) → Among start (next n) → Reaches next start start
  visit_found seen rest n h m = from_step n start (h.waiting_from n (among_right n rest (n ∷ []) (inl refl))) m

  -- one that was visited already
  pub visit_again : (seen : List Bool) (rest : List ℕ) (n : ℕ) → is_seen seen n ≡ true → Searching next start seen (rest ++ n ∷ []) → Searching next start seen rest
  visit_again seen rest n d h = record {
    seen_from = h.seen_from;
    waiting_from = λ x m. h.waiting_from x (among_left x rest (n ∷ []) m);
    closed = λ x c m k. still c (h.closed x c m k);
    no_way = h.no_way;
    begun = still start h.begun;
  }
    where
      still : (c : ℕ) → (is_seen seen c ≡ true) ⊎ Among c (rest ++ n ∷ []) → (is_seen seen c ≡ true) ⊎ Among c rest
      still c (inl e) = inl e
      still c (inr m) = elim (among_push c n rest m) [ inl k ↦ inr k | inr q ↦ inl (subst (λ y. is_seen seen y ≡ true) (sym q) d) ]

  -- a new one: all that it leads to waits from now on
  pub visit_new : (seen : List Bool) (rest : List ℕ) (n : ℕ) → n < length seen → Searching next start seen (rest ++ n ∷ []) → (Among start (next n) → ⊥) → Searching next start (set seen n true) (rest ++ next n)
  visit_new seen rest n l h away = record {
    seen_from = λ x m. elim (seen_was seen n x m) [
      | inl q ↦ subst (From next start) (sym q) (h.waiting_from n (among_right n rest (n ∷ []) (inl refl)))
      | inr e ↦ h.seen_from x e
    ];
    waiting_from = λ x m. elim (among_append x rest (next n) m) [
      | inl k ↦ h.waiting_from x (among_left x rest (n ∷ []) k)
      | inr k ↦ inr (from_step n x (h.waiting_from n (among_right n rest (n ∷ []) (inl refl))) k)
    ];
    closed = λ x c m k. elim (seen_was seen n x m) [
      | inl q ↦ inr (among_right c rest (next n) (subst (λ y. Among c (next y)) q k))
      | inr e ↦ moved c (h.closed x c e k)
    ];
    no_way = λ x m. elim (seen_was seen n x m) [
      | inl q ↦ subst (λ y. Among start (next y) → ⊥) (sym q) away
      | inr e ↦ h.no_way x e
    ];
    begun = moved start h.begun;
  }
    where
      moved : (c : ℕ) → (is_seen seen c ≡ true) ⊎ Among c (rest ++ n ∷ []) → (is_seen (set seen n true) c ≡ true) ⊎ Among c (rest ++ next n)
      moved c (inl e) = inl (seen_more seen n c e l)
      moved c (inr m) = elim (among_push c n rest m) [
        | inl k ↦ inr (among_left c rest (next n) k)
        | inr q ↦ inl (subst (λ y. is_seen (set seen n true) y ≡ true) (sym q) (get_or-set_same seen n true false l))
      ]

  none_seen : (n x : ℕ) → is_seen (replicate n false) x ≡ true → ⊥
  none_seen n x e = elim (cases_lt x n) [
    | inl l ↦ different (sym e ∙ get_or-replicate n x false false l)
    | inr g ↦ different (sym e ∙ get_or_past (replicate n false) x false (omega (arith, length-replicate n false)))
  ]

  pub search_begun : (n : ℕ) → Searching next start (replicate n false) (start ∷ [])
  search_begun n = record {
    seen_from = λ x m. absurd (none_seen n x m);
    waiting_from = λ x m. elim m [ inl e ↦ inl e | inr k ↦ absurd k ];
    closed = λ x c m k. absurd (none_seen n x m);
    no_way = λ x m. absurd (none_seen n x m);
    begun = inr (inl refl);
  }

  -- where nothing waits there is no way back
  none_back : (seen : List Bool) → Searching next start seen [] → (x : ℕ) → Reaches next start x → is_seen seen x ≡ true → ⊥
  none_back seen h x (directly _ m) d = h.no_way x d m
  none_back seen h x (through _ c m way) d = none_back seen h c way (elim (h.closed x c d m) [ inl e ↦ e | inr e ↦ absurd e ])

  pub search_ended : (seen : List Bool) (waiting : List ℕ) → length waiting ≡ 0 → Searching next start seen waiting → Reaches next start start → ⊥
  search_ended seen [] z h way = none_back seen h start way (elim h.begun [ inl e ↦ e | inr e ↦ absurd e ])
  search_ended seen (x ∷ xs) z h way = absurd (omega arith)

  -- a visit of a new one
  pub visited : (seen : List Bool) (rest rest' : List ℕ) (n : ℕ) (found : Bool) → n < length seen → Looked found start (next n) rest rest' → Searching next start seen (rest ++ n ∷ []) → Visited found next start (set seen n true) rest'
  visited seen rest rest' n true l look h = visit_found seen rest n h look
  visited seen rest rest' n false l look h = subst (Searching next start (set seen n true)) (sym look.1) (visit_new seen rest n l h look.0)

  pub found_way : (found : Bool) (seen : List Bool) (waiting : List ℕ) → found ≡ true → Visited found next start seen waiting → Found true next start
  found_way true seen waiting e v = v
  found_way false seen waiting e v = absurd (different (sym e))

  pub goes_on : (found : Bool) (seen : List Bool) (waiting : List ℕ) → found ≡ false → Visited found next start seen waiting → Searching next start seen waiting
  goes_on true seen waiting e v = absurd (different e)
  goes_on false seen waiting e v = v

-- ---- nodes

reached_within : (edges : List (List ℕ)) → AllWithin edges → (x a : ℕ) → Reaches (edges_of edges) x a → x < length edges
reached_within edges w x a (directly _ m) = w a x m
reached_within edges w x a (through _ b m way) = reached_within edges w x b way

pub from_within : (edges : List (List ℕ)) → AllWithin edges → (start x : ℕ) → start < length edges → From (edges_of edges) start x → x < length edges
from_within edges w start x l (inl e) = subst (λ y. y < length edges) (sym e) l
from_within edges w start x l (inr way) = reached_within edges w x start way

pub itself_within : (edges : List (List ℕ)) → AllWithin edges → (x : ℕ) → Reaches (edges_of edges) x x → x < length edges
itself_within edges w x way = reached_within edges w x x way

-- ---- cost

pub unread_less : (edges : List (List ℕ)) (seen : List Bool) (x : ℕ) → x < length edges → x < length seen → is_seen seen x ≡ false → unread edges (set seen x true) + length (edges_of edges x) ≡ unread edges seen
unread_less edges seen x l k e = omega (arith, weighted_sum-set (λ (es : List ℕ) (s : Bool). cond s 0 (length es)) false [] edges seen x true l k, ap (λ b. cond b 0 (length (edges_of edges x))) e)

pub room_less : (edges : List (List ℕ)) (seen : List Bool) (rest rest' : List ℕ) (x start : ℕ) (found : Bool) → x < length edges → x < length seen → is_seen seen x ≡ false → Looked found start (edges_of edges x) rest rest' → found ≡ false → room edges (set seen x true) rest' ≤ room edges seen rest
room_less edges seen rest rest' x start true l k e look f = absurd (different f)
room_less edges seen rest rest' x start false l k e look f = omega (arith, weighted_sum-set (λ (es : List ℕ) (s : Bool). cond s 0 (suc (length es))) false [] edges seen x true l k, ap (λ b. cond b 0 (suc (length (edges_of edges x)))) e, ap length look.1, length-append rest (edges_of edges x))

targets_le : (fields : List (Option ℕ)) → length (targets fields) ≤ length fields
targets_le [] = omega arith
targets_le (None ∷ fields) = omega (arith, targets_le fields)
targets_le (Some b ∷ fields) = omega (arith, targets_le fields)

pub totals : (edges : List (List ℕ)) (g : List (List (Option ℕ))) → length edges ≡ length g → ((x : ℕ) → edges_of edges x ≡ needs g x) → edge_total edges ≤ field_total g
totals [] g n h = omega arith
totals (e ∷ edges) [] n h = absurd (omega arith)
totals (e ∷ edges) (f ∷ g) n h = omega (arith, ap length (h 0), targets_le f, totals edges g (omega arith) (λ x. h (suc x)))

-- ---- the first one

pub edges_within : (edges : List (List ℕ)) (g : List (List (Option ℕ))) → IsWithin g → length edges ≡ length g → ((x : ℕ) → edges_of edges x ≡ needs g x) → AllWithin edges
edges_within edges g w n h a b m = subst (λ k. b < k) (sym n) (w a b (subst (Among b) (h a) m))

pub first_along : (p q : ℕ → List ℕ) → ((x : ℕ) → p x ≡ q x) → (found : Option ℕ) → IsFirst p found → IsFirst q found
first_along p q e None f = λ x way. f x (along q p (λ y. sym (e y)) x x way)
first_along p q e (Some i) f = (along p q e i i f.0, λ x l way. f.1 x l (along q p (λ y. sym (e y)) x x way))

pub none_first : (next : ℕ → List ℕ) (found : Option ℕ) → IsFirst next found → (x : ℕ) × Reaches next x x → found ≡ None → ⊥
none_first next None f w e = f w.0 w.1
none_first next (Some i) f w e = cc e

pub busy_le : (edges : List (List ℕ)) (g : List (List (Option ℕ))) → length edges ≡ length g → ((x : ℕ) → edges_of edges x ≡ needs g x) → nonempty_count edges ≤ nonempty_count g
busy_le [] g n h = omega arith
busy_le (e ∷ edges) [] n h = absurd (omega arith)
busy_le ([] ∷ edges) ([] ∷ g) n h = busy_le edges g (omega arith) (λ x. h (suc x))
busy_le ([] ∷ edges) ((f ∷ fs) ∷ g) n h = omega (arith, busy_le edges g (omega arith) (λ x. h (suc x)))
busy_le ((e ∷ es) ∷ edges) ([] ∷ g) n h = cc (h 0)
busy_le ((e ∷ es) ∷ edges) ((f ∷ fs) ∷ g) n h = omega (arith, busy_le edges g (omega arith) (λ x. h (suc x)))

-- one search more is paid
pub paid : (edges : List (List ℕ)) (i total old new bound : ℕ) → i < length edges → old + nonempty_count (drop i edges) * total ≤ bound → new ≤ old + row_cost (edges_of edges i) total → (new + nonempty_count (drop (i + 1) edges) * total ≤ bound) × (new ≤ bound)
paid edges i total old new bound l h k = pick (edges_of edges i) refl k
  where
    rest : nonempty_count (drop i edges) ≡ nonempty_count (edges_of edges i ∷ drop (i + 1) edges)
    rest = ap nonempty_count (drop_more edges i [] l)

    pick : (e : List ℕ) → edges_of edges i ≡ e → new ≤ old + row_cost e total → (new + nonempty_count (drop (i + 1) edges) * total ≤ bound) × (new ≤ bound)
    pick [] q k = let r : nonempty_count (drop i edges) ≡ nonempty_count (drop (i + 1) edges) = rest ∙ ap (λ e. nonempty_count (e ∷ drop (i + 1) edges)) q in let m = ap (λ n. n * total) r in (omega (arith, h, k, m), omega (arith, h, k))
    pick (x ∷ xs) q k = let r : nonempty_count (drop i edges) ≡ suc (nonempty_count (drop (i + 1) edges)) = rest ∙ ap (λ e. nonempty_count (e ∷ drop (i + 1) edges)) q in let m = ap (λ n. n * total) r in (grind (arith, h, k, m), grind (arith, h, k, m))

pub not_found : (next : ℕ → List ℕ) (start : ℕ) (found : Bool) → found ≡ false → Found found next start → Reaches next start start → ⊥
not_found next start true e f = cc e
not_found next start false e f = f

-- where none below the last does, none does
pub none_past : (edges : List (List ℕ)) (n : ℕ) → AllWithin edges → length edges ≤ n → ((x : ℕ) → x < n → Reaches (edges_of edges) x x → ⊥) → (x : ℕ) → Reaches (edges_of edges) x x → ⊥
none_past edges n w l none x way = let k = itself_within edges w x way in none x (omega arith) way
