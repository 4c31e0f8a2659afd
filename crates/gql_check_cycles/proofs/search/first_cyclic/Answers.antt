use Rattle.std.proofs.Common.{arith, ◌+◌, ◌*◌, ◌<◌, length, below_more}
use Rattle.std.proofs.lemmas.List.{length-map}
use Rattle.gql_check_cycles.specs.Graph.{lists, nonempty_count}
use Rattle.gql_check_cycles.specs.Pass.{edges_of}
use Rattle.gql_check_cycles.specs.Search.{edge_total}
use Rattle.gql_check_cycles.proofs.Searching.{none_past, not_found, paid}
use Rattle.gql_check_cycles.proofs.search.first_cyclic.Goals as goal

pub returns-clause-first : goal.returns-clause-first
returns-clause-first g c = none_past (lists c.args.edges.now) c.loop-start.start c.requires (omega (arith, c.loop-start-test.false, length-map c.args.edges.now (λ v. v.items))) c.loop-start.invariant.none

pub loop-start-preserved : goal.loop-start-preserved
loop-start-preserved g c =
    let l : c.loop-start.start < length (lists c.args.edges.now) = omega (arith, c.loop-start-test.true, length-map c.args.edges.now (λ v. v.items)) in
    record {
      none = below_more _ _ c.loop-start.invariant.none (not_found (edges_of (lists c.args.edges.now)) c.loop-start.start c.in_ok-search_from.field-0 c.if-branch.false c.in_ok-search_from.ensures.found);
      cost = (paid (lists c.args.edges.now) c.loop-start.start (edge_total (lists c.args.edges.now)) c.loop-start.steps c.search_from.new.steps (c.args.steps.now + nonempty_count (lists c.args.edges.now) * edge_total (lists c.args.edges.now)) l c.loop-start.invariant.cost c.search_from.ensures.cost).0;
    }
