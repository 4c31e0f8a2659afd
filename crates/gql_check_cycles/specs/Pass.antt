-- The ordering pass: what it knows of the nodes that are open and of those that are done.
use Rattle.std.specs.Prelude.{◌≡◌, ◌⊎◌, ◌+◌, ◌-◌, ◌*◌, ◌<◌, ◌≤◌, ◌++◌, ℕ, Bool, true, false, List, [], ◌∷◌, length, get_or, set, take, Option, Some, None, Vec}
use Rattle.std.specs.declared.alloc.Global.{Global}
use Rattle.gql_check_cycles.specs.declared.order.Mark.{Mark}
use Rattle.gql_check_cycles.specs.declared.order.Mark.TheVariants.{New, Open, Done}
use Rattle.gql_check_cycles.specs.declared.order.Pass.{Pass}
use Rattle.gql_check_cycles.specs.Graph.{Among, targets, fields_of, needs, lists, unlooked, Reaches}

-- the mark of a node
abbrev pub mark_of : List Mark → ℕ → Mark
mark_of marks x = get_or marks x New

-- the nodes that the stored edges of a node lead to
abbrev pub edges_of : List (List ℕ) → ℕ → List ℕ
edges_of edges x = get_or edges x []

-- the open node at a place of the stack
abbrev pub at : List ℕ → ℕ → ℕ
at stack i = get_or stack i 0

-- The open nodes are a path. As long as no cycle was met, a done node leads only to done ones and never reaches itself,
-- and what is stored of an open one leads to done ones and to the next one on the path.
pub record Ordered (next : ℕ → List ℕ) (marks : List Mark) (edges : List (List ℕ)) (stack : List ℕ) (cyclic : Bool) : Type 0 where
  pub fresh : (x : ℕ) → mark_of marks x ≡ New → edges_of edges x ≡ []
  pub complete : (x : ℕ) → mark_of marks x ≡ Done → edges_of edges x ≡ next x
  pub marked : (i : ℕ) → i < length stack → mark_of marks (at stack i) ≡ Open
  pub stands : (x : ℕ) → mark_of marks x ≡ Open → (i : ℕ) × (i < length stack) × (at stack i ≡ x)
  pub apart : (i j : ℕ) → i < j → j < length stack → at stack i ≡ at stack j → ⊥
  pub path : (i j : ℕ) → i < j → j < length stack → Reaches next (at stack j) (at stack i)
  pub settled : cyclic ≡ false → (i b : ℕ) → i < length stack → Among b (edges_of edges (at stack i)) → (mark_of marks b ≡ Done) ⊎ ((i + 1 < length stack) × (at stack (i + 1) ≡ b))
  pub closed : cyclic ≡ false → (x b : ℕ) → mark_of marks x ≡ Done → Among b (next x) → mark_of marks b ≡ Done
  pub acyclic : cyclic ≡ false → (x : ℕ) → mark_of marks x ≡ Done → Reaches next x x → ⊥
  pub cycle : cyclic ≡ true → (x : ℕ) × Reaches next x x

-- The same, with how far each node's fields were looked at.
pub record Passing (g : List (List (Option ℕ))) (marks : List Mark) (looked : List ℕ) (edges : List (List ℕ)) (stack : List ℕ) (cyclic : Bool) : Type 0 where
  pub marks_len : length marks ≡ length g
  pub looked_len : length looked ≡ length g
  pub edges_len : length edges ≡ length g
  pub ordered : Ordered (needs g) marks edges stack cyclic
  pub stored : (x : ℕ) → edges_of edges x ≡ targets (take (get_or looked x 0) (fields_of g x))
  pub limit : (x : ℕ) → get_or looked x 0 ≤ length (fields_of g x)

-- the same of what the code holds
abbrev pub IsPass : List (List (Option ℕ)) → Pass → Type 0
IsPass g pass = Passing g pass.marks.items pass.looked.items (lists pass.edges.items) pass.stack.items pass.cyclic

-- what is no longer new stays so
abbrev pub Keeps : List Mark → List Mark → Type 0
Keeps old new = (x : ℕ) → (mark_of old x ≡ New → ⊥) → mark_of new x ≡ New → ⊥

-- what following an edge to a node of a mark does
abbrev pub Followed : Mark → ℕ → (marks marks' : List Mark) → (stack stack' : List ℕ) → (cyclic cyclic' : Bool) → Type 0
Followed New b marks marks' stack stack' cyclic cyclic' = (marks' ≡ set marks b Open) × (stack' ≡ stack ++ b ∷ []) × (cyclic' ≡ cyclic)
Followed Open b marks marks' stack stack' cyclic cyclic' = (marks' ≡ marks) × (stack' ≡ stack) × (cyclic' ≡ true)
Followed Done b marks marks' stack stack' cyclic cyclic' = (marks' ≡ marks) × (stack' ≡ stack) × (cyclic' ≡ cyclic)

-- the edges with one more, from a to b
abbrev pub with_edge : ℕ → ℕ → List (List ℕ) → List (List ℕ)
with_edge a b edges = set edges a (edges_of edges a ++ b ∷ [])

-- the same of what the code holds
abbrev pub Follows : ℕ → (marks marks' : Vec Mark Global) → (stack stack' : Vec ℕ Global) → (cyclic cyclic' : Bool) → Type 0
Follows b marks marks' stack stack' cyclic cyclic' = Followed (mark_of marks.items b) b marks.items marks'.items stack.items stack'.items cyclic cyclic'

-- what a field of an open node does
abbrev pub Taken : Option ℕ → ℕ → (marks marks' : List Mark) → (edges edges' : List (List ℕ)) → (stack stack' : List ℕ) → (cyclic cyclic' : Bool) → Type 0
Taken None a marks marks' edges edges' stack stack' cyclic cyclic' = (marks' ≡ marks) × (edges' ≡ edges) × (stack' ≡ stack) × (cyclic' ≡ cyclic)
Taken (Some b) a marks marks' edges edges' stack stack' cyclic cyclic' = Followed (mark_of marks b) b marks marks' stack stack' cyclic cyclic' × (edges' ≡ with_edge a b edges)

-- the same of what the code holds
abbrev pub Takes : Option ℕ → ℕ → (old new : Pass) → Type 0
Takes field a old new = Taken field a old.marks.items new.marks.items (lists old.edges.items) (lists new.edges.items) old.stack.items new.stack.items old.cyclic new.cyclic

-- the last open node
abbrev pub IsTop : List ℕ → ℕ → Type 0
IsTop stack a = (0 < length stack) × (at stack (length stack - 1) ≡ a)

-- what a field leads to is a node
abbrev pub IsInside : Option ℕ → ℕ → Type 0
IsInside None n = Unit {0}
IsInside (Some b) n = b < n

-- what is left to do
abbrev pub work : List (List (Option ℕ)) → Pass → ℕ
work g pass = 2 * unlooked g pass.looked.items + length pass.stack.items

-- Less is left to do than before.
abbrev pub HasLessWork : List (List (Option ℕ)) → (old new : Pass) → Type 0
HasLessWork g old new = work g new < work g old

-- Each look at a field that had not been looked at is a step, and there is no other step.
abbrev pub IsPaid : List (List (Option ℕ)) → (old new : Pass) → (steps steps' : ℕ) → Type 0
IsPaid g old new steps steps' = steps' + unlooked g new.looked.items ≡ steps + unlooked g old.looked.items

-- A step of the pass keeps what it knows.
abbrev pub IsKept : List (List (Option ℕ)) → Pass → Pass → Type 0
IsKept g old new = IsPass g new × Keeps old.marks.items new.marks.items

-- the edges that a pass stored
abbrev pub edges_in : Pass → List (List ℕ)
edges_in pass = lists pass.edges.items

-- What the pass gives: all edges, and whether there is a cycle.
abbrev pub Answers : List (List (Option ℕ)) → Bool → List (List ℕ) → Type 0
Answers g cyclic edges = ((x : ℕ) → edges_of edges x ≡ needs g x)
    × (cyclic ≡ false → (x : ℕ) → Reaches (needs g) x x → ⊥)
    × (cyclic ≡ true → (x : ℕ) × Reaches (needs g) x x)
    × (length edges ≡ length g)
