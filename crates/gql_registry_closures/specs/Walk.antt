-- A walk over the table: which types are marked, and which of these wait to be looked at.
use Rattle.std.specs.Prelude.{◌≡◌, ◌⊎◌, ◌+◌, ◌++◌, ◌&&◌, ◌||◌, ℕ, suc, Bool, true, false, not, Decides, List, [], ◌∷◌, fold, filter, map, length, get_or, set, if◌then◌else◌, Option, None}
use Rattle.std.specs.Option.{option_map_or}
use Rattle.std.specs.List.{list_any}
use Rattle.gql_registry_meta.specs.Parts.{Text}
use Rattle.gql_registry_meta.specs.Kinds.{is_shown}
use Rattle.gql_registry_closures.specs.Table.{place_of, lists}
use Rattle.gql_registry_closures.specs.Reached.{is_system_name}
use Rattle.gql_registry_closures.specs.declared.edges.Edge.{Edge}
use Rattle.gql_registry_closures.specs.declared.table.Table.{Table}

-- ---- edges

-- the parts on the edge and the type to which it leads are shown
abbrev pub passes : (ℕ → Bool) → List (Option ℕ) → Edge → Bool
passes holds rules edge =
    is_shown holds edge.outer && is_shown holds edge.inner && is_shown holds (get_or rules edge.to None)

-- where the edges lead that can be passed
abbrev pub targets : (ℕ → Bool) → List (Option ℕ) → List Edge → List ℕ
targets holds rules edges = map (λ (edge : Edge). edge.to) (filter (passes holds rules) edges)

-- where one gets from a type in one step
abbrev pub next_of : (ℕ → Bool) → List (Option ℕ) → List (List Edge) → ℕ → List ℕ
next_of holds rules edges x = targets holds rules (get_or edges x [])

-- the same by what the code holds
abbrev pub steps_of : (ℕ → Bool) → Table → ℕ → List ℕ
steps_of holds table = next_of holds table.rules.items (lists table.edges.items)

-- ---- marks

-- it is one of the list
abbrev pub Among : ℕ → List ℕ → Type 0
Among x [] = ⊥
Among x (y ∷ ys) = (x ≡ y) ⊎ Among x ys

-- the type is marked
abbrev pub is_marked : List Bool → ℕ → Bool
is_marked marks x = get_or marks x false

-- what is marked and what waits, after a type is met: the first time it is marked, and waits
abbrev pub with_met : List Bool × List ℕ → ℕ → List Bool × List ℕ
with_met state x = if is_marked state.0 x then state else (set state.0 x true, state.1 ++ x ∷ [])

-- the same after several types are met in turn
abbrev pub with_all_met : List Bool × List ℕ → List ℕ → List Bool × List ℕ
with_all_met state xs = fold with_met state xs

-- by steps from one to the next it is reached from one with the property
pub data Chain (next : ℕ → List ℕ) (From : ℕ → Type 0) : ℕ → Type 0 where
  here : (x : ℕ) → From x → Chain next From x
  further : (a b : ℕ) → Chain next From a → Among b (next a) → Chain next From b

-- what waits is marked; and what a marked type leads to is marked, unless that type waits
pub record Pending (next : ℕ → List ℕ) (marks : List Bool) (waiting : List ℕ) : Type 0 where
  pub waits : (x : ℕ) → Among x waiting → is_marked marks x ≡ true
  pub closed : (x : ℕ) → is_marked marks x ≡ true → Among x waiting ⊎ ((c : ℕ) → Among c (next x) → is_marked marks c ≡ true)

-- what a marked type leads to is marked
abbrev pub IsClosed : (ℕ → List ℕ) → List Bool → Type 0
IsClosed next marks = (x c : ℕ) → is_marked marks x ≡ true → Among c (next x) → is_marked marks c ≡ true

-- marked are exactly the types with the property
abbrev pub MarksExactly : List Bool → (ℕ → Type 0) → Type 0
MarksExactly marks P = (x : ℕ) → Decides (is_marked marks x) (P x)

-- marked are exactly those that were, and what they reach
abbrev pub MarksReached : (ℕ → List ℕ) → (old new : List Bool) → Type 0
MarksReached next old new = MarksExactly new (Chain next (λ y. is_marked old y ≡ true))

-- how many types are not marked
abbrev pub unmarked : List Bool → ℕ
unmarked [] = 0
unmarked (true ∷ marks) = unmarked marks
unmarked (false ∷ marks) = suc (unmarked marks)

-- what is left to do: each type is marked once, and looked at once after that
abbrev pub work : List Bool × List ℕ → ℕ
work state = unmarked state.0 + length state.1

-- ---- interfaces

-- an interface of this number is added: it is shown and not marked, and one of its possible types is marked
abbrev pub joins : (ℕ → Bool) → List (Option ℕ) → List (List ℕ) → List Bool → ℕ → Bool
joins holds rules implementers marks place =
    not (is_marked marks place)
    && is_shown holds (get_or rules place None)
    && list_any (is_marked marks) (get_or implementers place [])

-- marked are exactly those that were, and, if one is added, what it reaches
abbrev pub MarksJoined : Bool → (ℕ → List ℕ) → ℕ → (old new : List Bool) → Type 0
MarksJoined added next place old new = MarksExactly new (λ x. (is_marked old x ≡ true) ⊎ ((added ≡ true) × Chain next (λ y. y ≡ place) x))

-- marked are exactly those that come in turn by the types of the numbers below the count
pub data JoinsUpTo (holds : ℕ → Bool) (table : Table) (old : List Bool) : ℕ → List Bool → Type 0 where
  none_yet : (count : ℕ) (new : List Bool) → count ≡ 0 → new ≡ old → JoinsUpTo holds table old count new
  one_more : (place count : ℕ) (before new : List Bool) → count ≡ place + 1 → JoinsUpTo holds table old place before → length new ≡ length before → MarksJoined (joins holds table.rules.items (lists table.implementers.items) before place) (steps_of holds table) place before new → JoinsUpTo holds table old count new

-- the same by all types
abbrev pub JoinsAll : (ℕ → Bool) → Table → (old new : List Bool) → Type 0
JoinsAll holds table old new = JoinsUpTo holds table old (length old) new

-- ---- names

-- the type of this name is marked
abbrev pub is_name_marked : List Text → List Bool → Text → Bool
is_name_marked names marks name = option_map_or (λ place. is_marked marks place) (place_of name names) false

-- it is a system type, or it is marked
abbrev pub is_name_kept : List Text → List Bool → Text → Bool
is_name_kept names marks name = is_system_name name || is_name_marked names marks name

-- those of the others that are not kept
abbrev pub left_of : List Text → List Bool → List Text → List Text
left_of names marks others = filter (λ name. not (is_name_kept names marks name)) others
