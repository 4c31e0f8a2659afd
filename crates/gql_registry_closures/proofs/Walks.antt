-- A walk keeps what it knows.
use Rattle.std.proofs.Common.{arith, ◌⊎◌, inl, inr, ◌≡◌, ◌<◌, ℕ, Bool, true, false, List, [], ◌∷◌, ◌++◌, length, get_or, set, replicate, map, filter, Option, refl, ap, sym, ◌∙◌, subst, cond, Vec}
use Rattle.std.proofs.lemmas.Bool.{cases_lt, false≢true, true≢false}
use Rattle.std.proofs.lemmas.List.{get_or_past, get_or-replicate, length-replicate, get_or-map}
use Rattle.std.specs.List.{AllByRecursion}
use Rattle.std.specs.declared.alloc.Global.{Global}
use Rattle.gql_registry_closures.specs.Table.{AreWithin, lists}
use Rattle.gql_registry_closures.specs.Walk.{passes, targets, next_of, Among, is_marked, with_all_met, Chain, here, further, Pending, IsClosed, MarksExactly, MarksReached, MarksJoined}
use Rattle.gql_registry_closures.specs.declared.edges.Edge.{Edge}
use Rattle.gql_registry_closures.proofs.Marks.{among_left, among_right, among_push, marked_same, marked_more, marked_was, Meeting, all_met}

-- ---- edges

targets-within-by : (holds : ℕ → Bool) (rules : List (Option ℕ)) (n : ℕ) (edge : Edge) (edges : List Edge) (b : Bool) → edge.to < n → AllByRecursion (λ x. x < n) (targets holds rules edges) → AllByRecursion (λ x. x < n) (map (λ (e : Edge). e.to) (cond b (edge ∷ filter (passes holds rules) edges) (filter (passes holds rules) edges)))
targets-within-by holds rules n edge edges true l h = (l, h)
targets-within-by holds rules n edge edges false l h = h

-- edges that lead to types lead there where they can be passed
pub targets_within : (holds : ℕ → Bool) (rules : List (Option ℕ)) (n : ℕ) (edges : List Edge) → AreWithin n edges → AllByRecursion (λ x. x < n) (targets holds rules edges)
targets_within holds rules n [] h = tt
targets_within holds rules n (edge ∷ edges) h = targets-within-by holds rules n edge edges (passes holds rules edge) h.0 (targets_within holds rules n edges h.1)

-- a row of the table
pub row_is : {A : Type 0} (vs : List (Vec A Global)) (x : ℕ) (v : Vec A Global) → x < length vs → v ≡ get_or vs x v → get_or (lists vs) x [] ≡ v.items
row_is vs x v l e = get_or-map (λ u. u.items) vs x v [] l ∙ ap (λ u. u.items) (sym e)

-- what looking at a type leaves
pub met_at : (holds : ℕ → Bool) (rules : List (Option ℕ)) (es : List (List Edge)) (marks : List Bool) (rest : List ℕ) (x : ℕ) (marks' : List Bool) (waiting' : List ℕ) → length rules ≡ length marks → AreWithin (length rules) (get_or es x []) → (marks', waiting') ≡ with_all_met (marks, rest) (next_of holds rules es x) → Meeting (next_of holds rules es x) marks rest marks' waiting'
met_at holds rules es marks rest x marks' waiting' size within state =
    let all = targets_within holds rules (length marks) (get_or es x []) (subst (λ n. AreWithin n (get_or es x [])) size within) in
    subst (λ s. Meeting (next_of holds rules es x) marks rest s.0 s.1) (sym state) (all_met (next_of holds rules es x) marks rest all)

-- what meeting the starts leaves
pub met_at_start : (holds : ℕ → Bool) (rules : List (Option ℕ)) (starts : List Edge) (n : ℕ) (marks0 : List Bool) (waiting0 : List ℕ) (marks : List Bool) (waiting : List ℕ) → marks0 ≡ replicate n false → waiting0 ≡ [] → length rules ≡ n → AreWithin (length rules) starts → (marks, waiting) ≡ with_all_met (marks0, waiting0) (targets holds rules starts) → Meeting (targets holds rules starts) (replicate n false) [] marks waiting
met_at_start holds rules starts n marks0 waiting0 marks waiting m w size within state =
    let all = targets_within holds rules n starts (subst (λ k. AreWithin k starts) size within) in
    let whole : AllByRecursion (λ x. x < length (replicate n false)) (targets holds rules starts) = subst (λ k. AllByRecursion (λ x. x < k) (targets holds rules starts)) (sym (length-replicate n false)) all in
    let same : (marks, waiting) ≡ with_all_met (replicate n false, []) (targets holds rules starts) = state ∙ ap (λ ms. with_all_met (ms, waiting0) (targets holds rules starts)) m ∙ ap (λ ws. with_all_met (replicate n false, ws) (targets holds rules starts)) w in
    subst (λ s. Meeting (targets holds rules starts) (replicate n false) [] s.0 s.1) (sym same) (all_met (targets holds rules starts) (replicate n false) [] whole)

-- ---- a walk

pub mapped_chain : (next : ℕ → List ℕ) (P Q : ℕ → Type 0) → ((x : ℕ) → P x → Q x) → (x : ℕ) → Chain next P x → Chain next Q x
mapped_chain next P Q f x (here _ p) = here x (f x p)
mapped_chain next P Q f x (further a _ c m) = further a x (mapped_chain next P Q f a c) m

pub marked_within : (marks : List Bool) (x : ℕ) → is_marked marks x ≡ true → x < length marks
marked_within marks x e = elim (cases_lt x (length marks)) [ inl l ↦ l | inr g ↦ absurd (false≢true (sym (get_or_past marks x false g) ∙ e)) ]

module _ (next : ℕ → List ℕ) where
  -- what waits is a type
  pub next_within : (marks : List Bool) (rest : List ℕ) (x : ℕ) → Pending next marks (rest ++ x ∷ []) → x < length marks
  next_within marks rest x h = marked_within marks x (h.waits x (among_right x rest (x ∷ []) (inl refl)))

  -- the last one that waits is looked at
  pub looked_at : (marks : List Bool) (rest : List ℕ) (x : ℕ) (marks' : List Bool) (waiting' : List ℕ) → Pending next marks (rest ++ x ∷ []) → Meeting (next x) marks rest marks' waiting' → Pending next marks' waiting'
  looked_at marks rest x marks' waiting' h meets = record {
    waits = λ y m. elim (meets.waits y m) [ inl k ↦ meets.keeps y (h.waits y (among_left y rest (x ∷ []) k)) | inr k ↦ meets.has y k ];
    closed = λ y d. elim (meets.fresh y d) [ inl k ↦ old y (h.closed y k) | inr k ↦ inl k ];
  }
    where
      old : (y : ℕ) → Among y (rest ++ x ∷ []) ⊎ ((c : ℕ) → Among c (next y) → is_marked marks c ≡ true) → Among y waiting' ⊎ ((c : ℕ) → Among c (next y) → is_marked marks' c ≡ true)
      old y (inl m) = elim (among_push y x rest m) [
        | inl k ↦ inl (meets.still y k)
        | inr q ↦ inr (λ c k. meets.has c (subst (λ z. Among c (next z)) q k))
      ]
      old y (inr f) = inr (λ c k. meets.keeps c (f c k))

  pub chain_kept : (From : ℕ → Type 0) (marks : List Bool) (rest : List ℕ) (x : ℕ) (marks' : List Bool) (waiting' : List ℕ) → Pending next marks (rest ++ x ∷ []) → Meeting (next x) marks rest marks' waiting' → ((y : ℕ) → is_marked marks y ≡ true → Chain next From y) → (y : ℕ) → is_marked marks' y ≡ true → Chain next From y
  chain_kept From marks rest x marks' waiting' h meets sound y d = elim (meets.was y d) [
    | inl k ↦ sound y k
    | inr k ↦ further x y (sound x (h.waits x (among_right x rest (x ∷ []) (inl refl)))) k
  ]

  -- nothing waits any more
  pub all_closed : (marks : List Bool) (waiting : List ℕ) → length waiting ≡ 0 → Pending next marks waiting → IsClosed next marks
  all_closed marks [] e h x c d m = elim (h.closed x d) [ inl k ↦ absurd k | inr f ↦ f c m ]
  all_closed marks (w ∷ waiting) e h x c d m = absurd (omega arith)

  -- closed marks are on all that they reach
  pub closed_chain : (marks : List Bool) → IsClosed next marks → (x : ℕ) → Chain next (λ y. is_marked marks y ≡ true) x → is_marked marks x ≡ true
  closed_chain marks closed x (here _ p) = p
  closed_chain marks closed x (further a _ c m) = closed a x (closed_chain marks closed a c) m

  pub walk_ended : (old marks : List Bool) (waiting : List ℕ) → length waiting ≡ 0 → Pending next marks waiting → ((y : ℕ) → is_marked marks y ≡ true → Chain next (λ z. is_marked old z ≡ true) y) → ((y : ℕ) → is_marked old y ≡ true → is_marked marks y ≡ true) → MarksReached next old marks
  walk_ended old marks waiting e h sound keeps x =
      (sound x, λ c. closed_chain marks (all_closed marks waiting e h) x (mapped_chain next _ _ keeps x c))

  -- what was reached is closed
  pub reached_closed : (From : ℕ → Type 0) (marks : List Bool) → MarksExactly marks (Chain next From) → IsClosed next marks
  reached_closed From marks exact x c d m = (exact c).1 (further x c ((exact x).0 d) m)

  none_marked : (n x : ℕ) → is_marked (replicate n false) x ≡ true → ⊥
  none_marked n x e = elim (cases_lt x n) [
    | inl l ↦ true≢false (sym e ∙ get_or-replicate n x false false l)
    | inr g ↦ true≢false (sym e ∙ get_or_past (replicate n false) x false (omega (arith, length-replicate n false)))
  ]

  -- the starts are met first
  pub begun : (n : ℕ) (xs : List ℕ) (marks : List Bool) (waiting : List ℕ) → Meeting xs (replicate n false) [] marks waiting → Pending next marks waiting
  begun n xs marks waiting meets = record {
    waits = λ y m. elim (meets.waits y m) [ inl k ↦ absurd k | inr k ↦ meets.has y k ];
    closed = λ y d. elim (meets.fresh y d) [ inl k ↦ absurd (none_marked n y k) | inr k ↦ inl k ];
  }

  pub start_marked : (n : ℕ) (xs : List ℕ) (marks : List Bool) (waiting : List ℕ) (after : List Bool) → Meeting xs (replicate n false) [] marks waiting → MarksReached next marks after → MarksExactly after (Chain next (λ y. Among y xs))
  start_marked n xs marks waiting after meets reached x = (
    λ d. mapped_chain next _ _ (λ y k. start y (meets.was y k)) x ((reached x).0 d),
    λ c. (reached x).1 (mapped_chain next _ _ meets.has x c),
  )
    where
      start : (y : ℕ) → (is_marked (replicate n false) y ≡ true) ⊎ Among y xs → Among y xs
      start y (inl k) = absurd (none_marked n y k)
      start y (inr k) = k

  -- ---- one type more, to closed marks

  pub added_pending : (marks : List Bool) (x : ℕ) → x < length marks → IsClosed next marks → Pending next (set marks x true) (x ∷ [])
  added_pending marks x l closed = record {
    waits = λ y m. elim m [ inl q ↦ subst (λ z. is_marked (set marks x true) z ≡ true) (sym q) (marked_same marks x l) | inr k ↦ absurd k ];
    closed = λ y d. elim (marked_was marks x y d) [ inl q ↦ inl (inl q) | inr k ↦ inr (λ c m. marked_more marks x c l (closed y c k m)) ];
  }

  chain_split : (marks : List Bool) (x : ℕ) → x < length marks → IsClosed next marks → (y : ℕ) → Chain next (λ z. is_marked (set marks x true) z ≡ true) y → (is_marked marks y ≡ true) ⊎ Chain next (λ z. z ≡ x) y
  chain_split marks x l closed y (here _ p) = elim (marked_was marks x y p) [ inl q ↦ inr (here y q) | inr k ↦ inl k ]
  chain_split marks x l closed y (further a _ c m) = elim (chain_split marks x l closed a c) [ inl k ↦ inl (closed a y k m) | inr k ↦ inr (further a y k m) ]

  pub added_reached : (marks : List Bool) (x : ℕ) (after : List Bool) → x < length marks → IsClosed next marks → MarksReached next (set marks x true) after → MarksJoined true next x marks after
  added_reached marks x after l closed reached y = (
    λ d. elim (chain_split marks x l closed y ((reached y).0 d)) [ inl k ↦ inl k | inr k ↦ inr (refl, k) ],
    λ h. elim h [
      | inl k ↦ (reached y).1 (here y (marked_more marks x y l k))
      | inr k ↦ (reached y).1 (mapped_chain next _ _ (λ z q. subst (λ w. is_marked (set marks x true) w ≡ true) (sym q) (marked_same marks x l)) y k.1)
    ],
  )

  pub none_added : (marks after : List Bool) (x : ℕ) (added : Bool) → added ≡ false → after ≡ marks → MarksJoined added next x marks after
  none_added marks after x added e same y = (
    λ d. inl (subst (λ ms. is_marked ms y ≡ true) same d),
    λ h. elim h [ inl k ↦ subst (λ ms. is_marked ms y ≡ true) (sym same) k | inr k ↦ absurd (false≢true (sym e ∙ k.0)) ],
  )

  -- marks stay closed
  pub joined_closed : (added : Bool) (x : ℕ) (marks after : List Bool) → IsClosed next marks → MarksJoined added next x marks after → IsClosed next after
  joined_closed added x marks after closed joined a c d m = elim ((joined a).0 d) [
    | inl k ↦ (joined c).1 (inl (closed a c k m))
    | inr k ↦ (joined c).1 (inr (k.0, further a c k.1 m))
  ]
