use Rattle.std.proofs.Common.{rules, ◌≡◌, [], false, length, replicate, sym, ap, subst}
use Rattle.gql_registry_closures.specs.Table.{lists, AreWithin}
use Rattle.gql_registry_closures.specs.Walk.{next_of, steps_of, targets, Among, Chain, MarksExactly, MarksReached}
use Rattle.gql_registry_closures.proofs.Walks.{met_at_start, begun, start_marked}
use Rattle.gql_registry_closures.proofs.search.reached.Goals as goal

pub reach-requires-clause-pending : goal.reach-requires-clause-pending
reach-requires-clause-pending g c =
    let holds = g.C.Context.rules c.args.ctx.now in
    let table = c.args.table.now in
    let m : c.in_ok-marks.marks.items ≡ replicate (length table.rules.items) false = search rules in
    let w : c.new-waiting.result.items ≡ [] = search rules in
    let within : AreWithin (length c.deref.result.now) c.deref-2.result.now = subst (λ r. AreWithin (length r) c.deref-2.result.now) (sym c.deref.ensures.value)
    (subst (AreWithin (length table.rules.items)) (sym c.deref-2.ensures.value) c.requires.starts_within) in
    let meets = met_at_start holds c.deref.result.now c.deref-2.result.now (length table.rules.items) c.in_ok-marks.marks.items c.new-waiting.result.items c.follow_all.new.marks.items c.follow_all.new.waiting.items m w (ap length c.deref.ensures.value) within c.in_ok-follow_all.ensures.state in
    begun (next_of holds c.deref-3.result.now (lists c.deref-4.result.now)) (length table.rules.items) (targets holds c.deref.result.now c.deref-2.result.now) c.follow_all.new.marks.items c.follow_all.new.waiting.items meets

pub returns-clause-reached : goal.returns-clause-reached
returns-clause-reached g c =
    let holds = g.C.Context.rules c.args.ctx.now in
    let table = c.args.table.now in
    let m : c.in_ok-marks.marks.items ≡ replicate (length table.rules.items) false = search rules in
    let w : c.new-waiting.result.items ≡ [] = search rules in
    let within : AreWithin (length c.deref.result.now) c.deref-2.result.now = subst (λ r. AreWithin (length r) c.deref-2.result.now) (sym c.deref.ensures.value)
    (subst (AreWithin (length table.rules.items)) (sym c.deref-2.ensures.value) c.requires.starts_within) in
    let meets = met_at_start holds c.deref.result.now c.deref-2.result.now (length table.rules.items) c.in_ok-marks.marks.items c.new-waiting.result.items c.follow_all.new.marks.items c.follow_all.new.waiting.items m w (ap length c.deref.ensures.value) within c.in_ok-follow_all.ensures.state in
    let reached : MarksReached (steps_of holds table) c.follow_all.new.marks.items c.reach.new.marks.items =
    subst (λ es. MarksReached (next_of holds table.rules.items (lists es)) c.follow_all.new.marks.items c.reach.new.marks.items) c.deref-4.ensures.value
    (subst (λ r. MarksReached (next_of holds r (lists c.deref-4.result.now)) c.follow_all.new.marks.items c.reach.new.marks.items) c.deref-3.ensures.value c.in_ok-reach.ensures.reached) in
    let marked = start_marked (steps_of holds table) (length table.rules.items) (targets holds c.deref.result.now c.deref-2.result.now) c.follow_all.new.marks.items c.follow_all.new.waiting.items c.reach.new.marks.items meets reached in
    subst (λ es. MarksExactly c.reach.new.marks.items (Chain (steps_of holds table) (λ x. Among x (targets holds table.rules.items es)))) c.deref-2.ensures.value
    (subst (λ r. MarksExactly c.reach.new.marks.items (Chain (steps_of holds table) (λ x. Among x (targets holds r c.deref-2.result.now)))) c.deref.ensures.value marked)
