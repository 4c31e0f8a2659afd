use Rattle.std.proofs.Common.{◌≤◌, ◌<◌, ◌+◌, ◌*◌, ℕ, drop}
use Rattle.gql_check_cycles.specs.Graph.{lists, Reaches, nonempty_count}
use Rattle.gql_check_cycles.specs.Pass.{edges_of}
use Rattle.gql_check_cycles.specs.Search.{edge_total}
use Rattle.gql_check_cycles.proofs.search.first_cyclic.Given as goal

abbrev pub invariant-loop-start : goal.invariant-loop-start
invariant-loop-start g l = record {
  none : (x : ℕ) → x < l.start → Reaches (edges_of (lists l.edges)) x x → ⊥;
  cost : l.steps + nonempty_count (drop l.start (lists l.edges)) * edge_total (lists l.edges) ≤ l.initial.steps + nonempty_count (lists l.edges) * edge_total (lists l.edges);
}
