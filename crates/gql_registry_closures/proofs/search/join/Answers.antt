use Rattle.std.proofs.Common.{◌≡◌, true, sym, ap, ◌∙◌, subst}
use Rattle.gql_registry_closures.specs.Table.{lists}
use Rattle.gql_registry_closures.specs.Walk.{joins, steps_of, MarksJoined}
use Rattle.gql_registry_closures.proofs.search.join.Goals as goal

pub returns-then-joins-clause-joined : goal.returns-then-joins-clause-joined
returns-then-joins-clause-joined g c =
    let holds = g.C.Context.rules c.args.ctx.now in
    let table = c.args.table.now in
    let e : joins holds table.rules.items (lists table.implementers.items) c.args.marks.now.items c.args.place ≡ true =
    sym (ap (λ ms. joins holds table.rules.items (lists table.implementers.items) ms c.args.place) c.deref.ensures.value) ∙ sym c.joins.ensures ∙ c.if-joins.true in
    subst (λ b. MarksJoined b (steps_of holds table) c.args.place c.args.marks.now.items c.reach_from.new.marks.items) (sym e) c.in_ok-reach_from.ensures.joined
