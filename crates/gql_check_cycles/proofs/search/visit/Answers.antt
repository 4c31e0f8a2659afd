use Rattle.std.proofs.Common.{arith, ◌<◌, ◌≤◌, length, sym, ap, ◌∙◌, subst, false}
use Rattle.std.proofs.lemmas.List.{get_or_read, length-map}
use Rattle.gql_check_cycles.specs.Graph.{lists}
use Rattle.gql_check_cycles.specs.Pass.{edges_of}
use Rattle.gql_check_cycles.specs.Search.{Visited, unread, room}
use Rattle.gql_check_cycles.proofs.Searching.{visit_again, visited, unread_less, room_less}
use Rattle.gql_check_cycles.proofs.search.visit.Goals as goal

pub returns-then-index-clause-state : goal.returns-then-index-clause-state
returns-then-index-clause-state g c =
    let k : c.args.x < length c.args.seen.now.items = omega (arith, c.requires.node, c.requires.marks) in
    visit_again (edges_of (lists c.args.edges.now)) c.args.start c.args.seen.now.items c.args.waiting.now.items c.args.x (sym (get_or_read c.args.seen.now.items c.args.x c.index.result.now k c.index.ensures false) ∙ c.if-index.true)

pub returns-in_err-found-clause-cost : goal.returns-in_err-found-clause-cost
returns-in_err-found-clause-cost g c =
    let k : c.args.x < length c.args.seen.now.items = omega (arith, c.requires.node, c.requires.marks) in
    let l : c.args.x < length (lists c.args.edges.now) = omega (arith, c.requires.node, length-map c.args.edges.now (λ v. v.items)) in
    omega (arith, c.visit_new.ensures.cost, ap (unread (lists c.args.edges.now)) c.visit_new.ensures.seen, unread_less (lists c.args.edges.now) c.args.seen.now.items c.args.x l k (sym (get_or_read c.args.seen.now.items c.args.x c.index.result.now k c.index.ensures false) ∙ c.if-index.false))

pub returns-clause-cost : goal.returns-clause-cost
returns-clause-cost g c =
    let k : c.args.x < length c.args.seen.now.items = omega (arith, c.requires.node, c.requires.marks) in
    let l : c.args.x < length (lists c.args.edges.now) = omega (arith, c.requires.node, length-map c.args.edges.now (λ v. v.items)) in
    omega (arith, c.visit_new.ensures.cost, ap (unread (lists c.args.edges.now)) c.visit_new.ensures.seen, unread_less (lists c.args.edges.now) c.args.seen.now.items c.args.x l k (sym (get_or_read c.args.seen.now.items c.args.x c.index.result.now k c.index.ensures false) ∙ c.if-index.false))

pub returns-clause-state : goal.returns-clause-state
returns-clause-state g c h =
    let k : c.args.x < length c.args.seen.now.items = omega (arith, c.requires.node, c.requires.marks) in
    subst (λ s. Visited c.in_ok-found.found (edges_of (lists c.args.edges.now)) c.args.start s c.visit_new.new.waiting.items) (sym c.visit_new.ensures.seen)
    (visited (edges_of (lists c.args.edges.now)) c.args.start c.args.seen.now.items c.args.waiting.now.items c.visit_new.new.waiting.items c.args.x c.in_ok-found.found k c.in_ok-found.ensures.looked h)

pub returns-clause-room : goal.returns-clause-room
returns-clause-room g c f =
    let k : c.args.x < length c.args.seen.now.items = omega (arith, c.requires.node, c.requires.marks) in
    let l : c.args.x < length (lists c.args.edges.now) = omega (arith, c.requires.node, length-map c.args.edges.now (λ v. v.items)) in
    subst (λ s. room (lists c.args.edges.now) s c.visit_new.new.waiting.items ≤ room (lists c.args.edges.now) c.args.seen.now.items c.args.waiting.now.items) (sym c.visit_new.ensures.seen)
    (room_less (lists c.args.edges.now) c.args.seen.now.items c.args.waiting.now.items c.visit_new.new.waiting.items c.args.x c.args.start c.in_ok-found.found l k (sym (get_or_read c.args.seen.now.items c.args.x c.index.result.now k c.index.ensures false) ∙ c.if-index.false) c.in_ok-found.ensures.looked f)
