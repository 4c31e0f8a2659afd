use Rattle.std.proofs.Common.{◌≡◌, ◌≤◌, ◌+◌, ◌++◌, take}
use Rattle.gql_check_cycles.specs.Graph.{Among}
use Rattle.gql_check_cycles.proofs.search.read_edges.Given as goal

-- what was read waits, and the start is not in it
abbrev pub invariant-loop-b : goal.invariant-loop-b
invariant-loop-b g l = record {
  waiting : l.waiting.items ≡ l.initial.waiting.items ++ take l.b-index l.edges;
  away : Among l.start (take l.b-index l.edges) → ⊥;
  cost : l.steps ≤ l.initial.steps + l.b-index;
}
