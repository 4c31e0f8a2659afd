use Rattle.std.proofs.Common.{arith, rules, ◌≡◌, ◌<◌, ◌∷◌, [], ℕ, Bool, List, cond, replicate, length, sym, ap, ◌∙◌, subst, inl, refl, false}
use Rattle.std.proofs.lemmas.List.{length-map}
use Rattle.gql_check_cycles.specs.Graph.{lists, Among}
use Rattle.gql_check_cycles.specs.Pass.{edges_of}
use Rattle.gql_check_cycles.specs.Search.{unread}
use Rattle.gql_check_cycles.proofs.Among.{among_right}
use Rattle.gql_check_cycles.proofs.Sums.{weighted_sum-replicate}
use Rattle.gql_check_cycles.proofs.Searching.{from_within, search_ended}
use Rattle.gql_check_cycles.proofs.search.search.Goals as goal

pub visit-requires-clause-node : goal.visit-requires-clause-node
visit-requires-clause-node g c =
    let n = length-map c.args.edges.now (λ v. v.items) in
    subst (λ k. c.in-Some.x < k) n (from_within (lists c.args.edges.now) c.requires.within c.args.start c.in-Some.x (subst (λ k. c.args.start < k) (sym n) c.requires.start)
    (c.loop-x.invariant.state.waiting_from c.in-Some.x (subst (Among c.in-Some.x) (sym c.in-Some.ensures.items) (among_right c.in-Some.x c.pop.new.self.items (c.in-Some.x ∷ []) (inl refl)))))

pub returns-in_err-visit-clause-cost : goal.returns-in_err-visit-clause-cost
returns-in_err-visit-clause-cost g c =
    let e : c.in_ok-seen.seen.items ≡ replicate (length c.args.edges.now) false = search rules in
    let total = ap (unread (lists c.args.edges.now)) e ∙ weighted_sum-replicate (λ (es : List ℕ) (s : Bool). cond s 0 (length es)) false (lists c.args.edges.now) (length c.args.edges.now) in
    omega (arith, c.loop-x.invariant.cost, c.visit.ensures.cost, total)

pub returns-then-branch-clause-cost : goal.returns-then-branch-clause-cost
returns-then-branch-clause-cost g c =
    let e : c.in_ok-seen.seen.items ≡ replicate (length c.args.edges.now) false = search rules in
    let total = ap (unread (lists c.args.edges.now)) e ∙ weighted_sum-replicate (λ (es : List ℕ) (s : Bool). cond s 0 (length es)) false (lists c.args.edges.now) (length c.args.edges.now) in
    omega (arith, c.loop-x.invariant.cost, c.visit.ensures.cost, total)

pub returns-clause-found : goal.returns-clause-found
returns-clause-found g c =
    let empty : length c.loop-x.waiting.items ≡ 0 = search rules in
    search_ended (edges_of (lists c.args.edges.now)) c.args.start c.loop-x.seen.items c.loop-x.waiting.items empty c.loop-x.invariant.state

pub returns-clause-cost : goal.returns-clause-cost
returns-clause-cost g c =
    let e : c.in_ok-seen.seen.items ≡ replicate (length c.args.edges.now) false = search rules in
    let total = ap (unread (lists c.args.edges.now)) e ∙ weighted_sum-replicate (λ (es : List ℕ) (s : Bool). cond s 0 (length es)) false (lists c.args.edges.now) (length c.args.edges.now) in
    omega (arith, c.loop-x.invariant.cost, total)
