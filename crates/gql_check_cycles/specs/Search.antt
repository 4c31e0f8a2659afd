-- A search from a start over stored edges: what it has seen, and what waits.
use Rattle.std.specs.Prelude.{◌≡◌, ◌⊎◌, ◌+◌, ◌*◌, ◌<◌, ◌≤◌, ◌++◌, ℕ, suc, Bool, true, false, cond, List, [], length, get_or, Vec}
use Rattle.std.specs.declared.alloc.Global.{Global}
use Rattle.gql_check_cycles.specs.Graph.{Among, Reaches, lists, weighted_sum, nonempty_count, row_cost}
use Rattle.gql_check_cycles.specs.Pass.{edges_of}

-- whether a node was visited
abbrev pub is_seen : List Bool → ℕ → Bool
is_seen seen x = get_or seen x false

-- it is the start, or is reached from it
abbrev pub From : (ℕ → List ℕ) → ℕ → ℕ → Type 0
From next start x = (x ≡ start) ⊎ Reaches next x start

-- What was visited and what waits is reached from the start; what visited nodes lead to was visited or waits; and no edge
-- that was read leads to the start.
pub record Searching (next : ℕ → List ℕ) (start : ℕ) (seen : List Bool) (waiting : List ℕ) : Type 0 where
  pub seen_from : (x : ℕ) → is_seen seen x ≡ true → From next start x
  pub waiting_from : (x : ℕ) → Among x waiting → From next start x
  pub closed : (x c : ℕ) → is_seen seen x ≡ true → Among c (next x) → (is_seen seen c ≡ true) ⊎ Among c waiting
  pub no_way : (x : ℕ) → is_seen seen x ≡ true → Among start (next x) → ⊥
  pub begun : (is_seen seen start ≡ true) ⊎ Among start waiting

-- a way back to the start was found, or the search goes on
abbrev pub Visited : Bool → (ℕ → List ℕ) → ℕ → (seen : List Bool) → (waiting : List ℕ) → Type 0
Visited true next start seen waiting = Reaches next start start
Visited false next start seen waiting = Searching next start seen waiting

-- what a search finds: whether the start reaches itself
abbrev pub Found : Bool → (ℕ → List ℕ) → ℕ → Type 0
Found true next start = Reaches next start start
Found false next start = Reaches next start start → ⊥

-- After a look the start was among what is led to, or all of it waits.
abbrev pub Looked : Bool → ℕ → List ℕ → (old new : List ℕ) → Type 0
Looked true start edges old new = Among start edges
Looked false start edges old new = (Among start edges → ⊥) × (new ≡ old ++ edges)

-- the stored edges that were not yet read
abbrev pub unread : List (List ℕ) → List Bool → ℕ
unread edges seen = weighted_sum (λ e s. cond s 0 (length e)) false edges seen

-- how many visits may come at most
abbrev pub room : List (List ℕ) → List Bool → List ℕ → ℕ
room edges seen waiting = weighted_sum (λ e s. cond s 0 (suc (length e))) false edges seen + length waiting

abbrev pub edge_total : List (List ℕ) → ℕ
edge_total edges = unread edges []

-- each edge leads to a node
abbrev pub AllWithin : List (List ℕ) → Type 0
AllWithin edges = (a b : ℕ) → Among b (get_or edges a []) → b < length edges

-- ---- the same of what the code holds

-- the nodes that the stored edges of a node lead to
abbrev pub stored : List (Vec ℕ Global) → ℕ → List ℕ
stored edges = edges_of (lists edges)

-- Each step was a read of an edge that had not been read.
abbrev pub IsPaidFor : List (Vec ℕ Global) → (seen seen' : Vec Bool Global) → (steps steps' : ℕ) → Type 0
IsPaidFor edges seen seen' steps steps' = steps' + unread (lists edges) seen'.items ≤ steps + unread (lists edges) seen.items

-- No more visits may come than before.
abbrev pub HasNoMoreRoom : List (Vec ℕ Global) → (seen seen' : Vec Bool Global) → (waiting waiting' : Vec ℕ Global) → Type 0
HasNoMoreRoom edges seen seen' waiting waiting' = room (lists edges) seen'.items waiting'.items ≤ room (lists edges) seen.items waiting.items

-- what a search from a start costs at most
abbrev pub start_cost : ℕ → List (List ℕ) → ℕ
start_cost start edges = row_cost (edges_of edges start) (edge_total edges)

-- what the searches from all starts cost at most
abbrev pub naming_cost : List (List ℕ) → ℕ
naming_cost edges = nonempty_count edges * edge_total edges
