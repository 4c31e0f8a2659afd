use Rattle.std.proofs.Common.{rules, ◌≡◌, ◌∷◌, [], true, set, sym, subst}
use Rattle.gql_registry_closures.specs.Table.{lists}
use Rattle.gql_registry_closures.specs.Walk.{next_of, steps_of, Pending, MarksReached}
use Rattle.gql_registry_closures.proofs.Walks.{added_pending, added_reached}
use Rattle.gql_registry_closures.proofs.search.reach_from.Goals as goal

pub reach-requires-clause-pending : goal.reach-requires-clause-pending
reach-requires-clause-pending g c =
    let next = steps_of (g.C.Context.rules c.args.ctx.now) c.args.table.now in
    let one : c.push.new.self.items ≡ c.args.place ∷ [] = search rules in
    let rules' : c.deref.result.now ≡ c.args.table.now.rules.items = c.deref.ensures.value in
    let edges : c.deref-2.result.now ≡ c.args.table.now.edges.items = c.deref-2.ensures.value in
    let pending = added_pending next c.args.marks.now.items c.args.place c.requires.place c.requires.closed in
    subst (λ r. Pending (next_of (g.C.Context.rules c.args.ctx.now) r (lists c.deref-2.result.now)) c.mark.new.marks.items c.push.new.self.items) (sym rules')
    (subst (λ es. Pending (next_of (g.C.Context.rules c.args.ctx.now) c.args.table.now.rules.items (lists es)) c.mark.new.marks.items c.push.new.self.items) (sym edges)
    (subst (λ ms. Pending next ms c.push.new.self.items) (sym c.mark.ensures)
    (subst (Pending next (set c.args.marks.now.items c.args.place true)) (sym one) pending)))

pub returns-clause-joined : goal.returns-clause-joined
returns-clause-joined g c =
    let next = steps_of (g.C.Context.rules c.args.ctx.now) c.args.table.now in
    let reached : MarksReached next (set c.args.marks.now.items c.args.place true) c.reach.new.marks.items =
    subst (λ ms. MarksReached next ms c.reach.new.marks.items) c.mark.ensures
    (subst (λ es. MarksReached (next_of (g.C.Context.rules c.args.ctx.now) c.args.table.now.rules.items (lists es)) c.mark.new.marks.items c.reach.new.marks.items) c.deref-2.ensures.value
    (subst (λ r. MarksReached (next_of (g.C.Context.rules c.args.ctx.now) r (lists c.deref-2.result.now)) c.mark.new.marks.items c.reach.new.marks.items) c.deref.ensures.value c.in_ok-reach.ensures.reached)) in
    added_reached next c.args.marks.now.items c.args.place c.reach.new.marks.items c.requires.place c.requires.closed reached
