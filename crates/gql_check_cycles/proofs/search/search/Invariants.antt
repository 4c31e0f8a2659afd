use Rattle.std.proofs.Common.{◌≡◌, ◌≤◌, ◌+◌, length}
use Rattle.gql_check_cycles.specs.Graph.{lists}
use Rattle.gql_check_cycles.specs.Pass.{edges_of}
use Rattle.gql_check_cycles.specs.Search.{Searching, unread, room}
use Rattle.gql_check_cycles.proofs.search.search.Given as goal

abbrev pub invariant-loop-x : goal.invariant-loop-x
invariant-loop-x g l = record {
  state : Searching (edges_of (lists l.edges)) l.start l.seen.items l.waiting.items;
  marks : length l.seen.items ≡ length l.edges;
  cost : l.steps + unread (lists l.edges) l.seen.items ≤ l.initial.steps + unread (lists l.edges) l.initial.seen.items;
}

abbrev pub decreases-loop-x : goal.decreases-loop-x
decreases-loop-x g l = room (lists l.edges) l.seen.items l.waiting.items
