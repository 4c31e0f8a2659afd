use Rattle.std.proofs.Common.{arith, ap, subst, sym}
use Rattle.gql_check_cycles.specs.Graph.{lists}
use Rattle.gql_check_cycles.specs.Pass.{IsInside}
use Rattle.gql_check_cycles.proofs.Passes.{looks_at, is_inside, less, taken_keeps, taken_stack}
use Rattle.gql_check_cycles.proofs.order.look_at_next.Goals as goal

pub take_field-requires-clause-target : goal.take_field-requires-clause-target
take_field-requires-clause-target g c = subst (IsInside c.look.result) (sym c.requires.pass.marks_len) (is_inside (g.T.Table.rows c.args.table.now) c.args.a c.args.k c.look.result c.requires.within (sym c.look.ensures))

pub returns-clause-kept : goal.returns-clause-kept
returns-clause-kept g c = (
  looks_at (g.T.Table.rows c.args.table.now) c.args.pass.now.marks.items c.args.pass.now.looked.items (lists c.args.pass.now.edges.items) c.args.pass.now.stack.items c.args.pass.now.cyclic c.args.a c.args.k c.look.result c.requires.next c.requires.pass c.requires.top c.requires.within c.requires.some c.look.ensures
      c.take_field.new.pass.marks.items c.take_field.new.pass.looked.items (lists c.take_field.new.pass.edges.items) c.take_field.new.pass.stack.items c.take_field.new.pass.cyclic (ap (λ v. v.items) c.take_field.ensures.looked) c.in_ok-take_field.ensures.taken,
  taken_keeps c.look.result c.args.a c.args.pass.now.marks.items c.take_field.new.pass.marks.items (lists c.args.pass.now.edges.items) (lists c.take_field.new.pass.edges.items) c.args.pass.now.stack.items c.take_field.new.pass.stack.items c.args.pass.now.cyclic c.take_field.new.pass.cyclic
      (subst (IsInside c.look.result) (sym c.requires.pass.marks_len) (is_inside (g.T.Table.rows c.args.table.now) c.args.a c.args.k c.look.result c.requires.within (sym c.look.ensures))) c.in_ok-take_field.ensures.taken,
)

pub returns-clause-less : goal.returns-clause-less
returns-clause-less g c = omega (
  arith,
  less (g.T.Table.rows c.args.table.now) c.args.pass.now.marks.items c.args.pass.now.looked.items (lists c.args.pass.now.edges.items) c.args.pass.now.stack.items c.args.pass.now.cyclic c.args.a c.args.k c.requires.next c.requires.pass c.requires.top c.requires.some c.take_field.new.pass.looked.items (ap (λ v. v.items) c.take_field.ensures.looked),
  taken_stack c.look.result c.args.a c.args.pass.now.marks.items c.take_field.new.pass.marks.items (lists c.args.pass.now.edges.items) (lists c.take_field.new.pass.edges.items) c.args.pass.now.stack.items c.take_field.new.pass.stack.items c.args.pass.now.cyclic c.take_field.new.pass.cyclic c.in_ok-take_field.ensures.taken,
)

pub returns-in_err-take_field-clause-cost : goal.returns-in_err-take_field-clause-cost
returns-in_err-take_field-clause-cost g c = omega (arith, c.tick.ensures, less (g.T.Table.rows c.args.table.now) c.args.pass.now.marks.items c.args.pass.now.looked.items (lists c.args.pass.now.edges.items) c.args.pass.now.stack.items c.args.pass.now.cyclic c.args.a c.args.k c.requires.next c.requires.pass c.requires.top c.requires.some c.take_field.new.pass.looked.items (ap (λ v. v.items) c.take_field.ensures.looked))

pub returns-clause-cost : goal.returns-clause-cost
returns-clause-cost g c = omega (arith, c.tick.ensures, less (g.T.Table.rows c.args.table.now) c.args.pass.now.marks.items c.args.pass.now.looked.items (lists c.args.pass.now.edges.items) c.args.pass.now.stack.items c.args.pass.now.cyclic c.args.a c.args.k c.requires.next c.requires.pass c.requires.top c.requires.some c.take_field.new.pass.looked.items (ap (λ v. v.items) c.take_field.ensures.looked))
