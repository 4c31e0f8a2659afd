-- A graph of numbered nodes: each has fields, and a field leads to a node or to nothing.
use Rattle.std.specs.Prelude.{◌≡◌, ◌⊎◌, ◌+◌, ◌*◌, ◌-◌, ◌<◌, ℕ, suc, List, [], ◌∷◌, map, length, get_or, Option, Some, None, Vec}
use Rattle.std.specs.List.{flat_map}
use Rattle.std.specs.declared.alloc.Global.{Global}

-- it is one of the list
abbrev pub Among : ℕ → List ℕ → Type 0
Among x [] = ⊥
Among x (y ∷ ys) = (x ≡ y) ⊎ Among x ys

-- what a field leads to, as a list of one node or of none
abbrev pub one_or_none : Option ℕ → List ℕ
one_or_none None = []
one_or_none (Some b) = b ∷ []

-- what fields lead to, field by field
abbrev pub targets : List (Option ℕ) → List ℕ
targets fields = flat_map one_or_none fields

-- the fields of a node
abbrev pub fields_of : List (List (Option ℕ)) → ℕ → List (Option ℕ)
fields_of g a = get_or g a []

-- the nodes that a node leads to, field by field
abbrev pub needs : List (List (Option ℕ)) → ℕ → List ℕ
needs g a = targets (fields_of g a)

-- a vector of vectors as a list of lists
abbrev pub lists : {A : Type 0} → List (Vec A Global) → List (List A)
lists vs = map (λ v. v.items) vs

-- Each node that is led to is one of the graph.
abbrev pub IsWithin : List (List (Option ℕ)) → Type 0
IsWithin g = (a b : ℕ) → Among b (needs g a) → b < length g

-- ---- reaching

-- From the last node the goal is reached by one or more steps.
pub data Reaches (next : ℕ → List ℕ) (goal : ℕ) : ℕ → Type 0 where
  directly : (a : ℕ) → Among goal (next a) → Reaches next goal a
  through : (a b : ℕ) → Among b (next a) → Reaches next goal b → Reaches next goal a

-- no node reaches itself, or the first one that does
abbrev pub IsFirst : (ℕ → List ℕ) → Option ℕ → Type 0
IsFirst next None = (x : ℕ) → Reaches next x x → ⊥
IsFirst next (Some i) = Reaches next i i × ((x : ℕ) → x < i → Reaches next x x → ⊥)

-- ---- sums

-- The weights of elements, each with what stands at its place in a second list.
abbrev pub weighted_sum : {A B : Type 0} → (A → B → ℕ) → B → List A → List B → ℕ
weighted_sum w d [] bs = 0
weighted_sum w d (x ∷ xs) [] = w x d + weighted_sum w d xs []
weighted_sum w d (x ∷ xs) (b ∷ bs) = w x b + weighted_sum w d xs bs

-- the fields that were not yet looked at
abbrev pub unlooked : List (List (Option ℕ)) → List ℕ → ℕ
unlooked g looked = weighted_sum (λ fields k. length fields - k) 0 g looked

-- all fields
abbrev pub field_total : List (List (Option ℕ)) → ℕ
field_total g = unlooked g []

-- how many nodes have a field
abbrev pub nonempty_count : {A : Type 0} → List (List A) → ℕ
nonempty_count [] = 0
nonempty_count ([] ∷ rows) = nonempty_count rows
nonempty_count ((x ∷ xs) ∷ rows) = suc (nonempty_count rows)

-- what a search from a node costs at most: nothing where it has none
abbrev pub row_cost : {A : Type 0} → List A → ℕ → ℕ
row_cost [] total = 0
row_cost (x ∷ xs) total = total

-- What naming the first node that reaches itself costs at most: F looks, and a search over F edges from each of I nodes.
abbrev pub search_bound : List (List (Option ℕ)) → ℕ
search_bound g = field_total g + nonempty_count g * field_total g
