use Rattle.std.proofs.Common.{◌≡◌, [], replicate}
use Rattle.gql_check_cycles.specs.Graph.{lists}
use Rattle.gql_check_cycles.proofs.order.no_edges.Given as goal

abbrev pub invariant-loop-i : goal.invariant-loop-i
invariant-loop-i l = lists l.edges.items ≡ replicate l._i []
