use Rattle.std.proofs.Common.{◌≡◌, ◌+◌, ◌<◌, ℕ, length}
use Rattle.gql_check_cycles.specs.declared.order.Mark.TheVariants.{New}
use Rattle.gql_check_cycles.specs.Graph.{unlooked}
use Rattle.gql_check_cycles.specs.Pass.{IsPass, mark_of}
use Rattle.gql_check_cycles.proofs.order.order.Given as goal

abbrev pub invariant-loop-root : goal.invariant-loop-root
invariant-loop-root g l = record {
  pass : IsPass (g.T.Table.rows l.table) l.pass;
  none : length l.pass.stack.items ≡ 0;
  old : (x : ℕ) → x < l.root → mark_of l.pass.marks.items x ≡ New → ⊥;
  cost : l.steps + unlooked (g.T.Table.rows l.table) l.pass.looked.items ≡ l.initial.steps + unlooked (g.T.Table.rows l.table) l.initial.pass.looked.items;
}
