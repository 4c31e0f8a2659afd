use Rattle.std.proofs.Common.{arith}
use Rattle.gql_check_cycles.specs.Graph.{lists}
use Rattle.gql_check_cycles.proofs.Passes.{ends}
use Rattle.gql_check_cycles.proofs.order.order.Goals as goal

pub returns-clause-found : goal.returns-clause-found
returns-clause-found g c = ends (g.T.Table.rows c.args.table.now) c.loop-root.pass.marks.items c.loop-root.pass.looked.items (lists c.loop-root.pass.edges.items) c.loop-root.pass.stack.items c.loop-root.pass.cyclic c.loop-root.invariant.pass c.loop-root.invariant.none
    (λ x l. c.loop-root.invariant.old x (omega (arith, l, c.loop-root-test.false, c.loop-root.auto.root-end)))
