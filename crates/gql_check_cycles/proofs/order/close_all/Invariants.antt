use Rattle.std.proofs.Common.{◌≡◌, ◌+◌}
use Rattle.gql_check_cycles.specs.Graph.{unlooked}
use Rattle.gql_check_cycles.specs.Pass.{IsKept, work}
use Rattle.gql_check_cycles.proofs.order.close_all.Given as goal

abbrev pub invariant-loop-a : goal.invariant-loop-a
invariant-loop-a g l = record {
  kept : IsKept (g.T.Table.rows l.table) l.initial.pass l.pass;
  cost : l.steps + unlooked (g.T.Table.rows l.table) l.pass.looked.items ≡ l.initial.steps + unlooked (g.T.Table.rows l.table) l.initial.pass.looked.items;
}

abbrev pub decreases-loop-a : goal.decreases-loop-a
decreases-loop-a g l = work (g.T.Table.rows l.table) l.pass
