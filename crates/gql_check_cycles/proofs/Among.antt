-- Membership, ways, and a list's element after a write or a push.
use Rattle.std.proofs.Common.{◌⊎◌, inl, inr, ⊎_elim, ◌≡◌, ◌<◌, ℕ, ◌++◌, List, [], ◌∷◌, length, get_or, set, sym, ap, ◌∙◌, subst, Vec}
use Rattle.std.proofs.lemmas.List.{map-set, get_or-map}
use Rattle.std.specs.declared.alloc.Global.{Global}
use Rattle.gql_check_cycles.specs.Graph.{Among, Reaches, directly, through, lists}

pub among_append : (x : ℕ) (xs ys : List ℕ) → Among x (xs ++ ys) → Among x xs ⊎ Among x ys
among_append x [] ys m = inr m
among_append x (z ∷ zs) ys (inl e) = inl (inl e)
among_append x (z ∷ zs) ys (inr m) = ⊎_elim (λ k. inl (inr k)) (λ k. inr k) (among_append x zs ys m)

pub among_left : (x : ℕ) (xs ys : List ℕ) → Among x xs → Among x (xs ++ ys)
among_left x [] ys m = absurd m
among_left x (z ∷ zs) ys (inl e) = inl e
among_left x (z ∷ zs) ys (inr m) = inr (among_left x zs ys m)

pub among_right : (x : ℕ) (xs ys : List ℕ) → Among x ys → Among x (xs ++ ys)
among_right x [] ys m = m
among_right x (z ∷ zs) ys m = inr (among_right x zs ys m)

-- among what was there, or the one that was pushed
pub among_push : (x b : ℕ) (xs : List ℕ) → Among x (xs ++ b ∷ []) → Among x xs ⊎ (x ≡ b)
among_push x b xs m = ⊎_elim (λ k. inl k) (λ k. inr (⊎_elim (λ e. e) (λ n. absurd n) k)) (among_append x xs (b ∷ []) m)

-- a way, and then one step
pub onward : (next : ℕ → List ℕ) (a b c : ℕ) → Reaches next a c → Among b (next a) → Reaches next b c
onward next a b c (directly _ m) k = through c a m (directly a k)
onward next a b c (through _ d m way) k = through c d m (onward next a b d way k)

-- a way, and then another
pub joined : (next : ℕ → List ℕ) (a b c : ℕ) → Reaches next a c → Reaches next b a → Reaches next b c
joined next a b c (directly _ m) way = through c a m way
joined next a b c (through _ d m more) way = through c d m (joined next a b d more way)

-- the same ways by the same edges
pub along : (p q : ℕ → List ℕ) → ((x : ℕ) → p x ≡ q x) → (goal a : ℕ) → Reaches p goal a → Reaches q goal a
along p q e goal a (directly _ m) = directly a (subst (Among goal) (e a) m)
along p q e goal a (through _ b m way) = through a b (subst (Among b) (e a) m) (along p q e goal b way)

-- a vector among others, with one more element
pub lists_set : (vs : List (Vec ℕ Global)) (a : ℕ) (v w : Vec ℕ Global) (b : ℕ) → a < length vs → v ≡ get_or vs a v → w.items ≡ v.items ++ b ∷ [] → lists (set vs a w) ≡ set (lists vs) a (get_or (lists vs) a [] ++ b ∷ [])
lists_set vs a v w b l e p = map-set (λ u. u.items) vs a w ∙ ap (set (lists vs) a) (p ∙ ap (λ xs. xs ++ b ∷ []) (ap (λ u. u.items) e ∙ sym (get_or-map (λ u. u.items) vs a v [] l)))
