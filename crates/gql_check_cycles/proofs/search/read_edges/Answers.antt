use Rattle.std.proofs.Common.{arith, rules, ◌≡◌, ◌<◌, get_or, length, subst}
use Rattle.std.proofs.lemmas.Grind.{common_steps}
use Rattle.gql_check_cycles.specs.Graph.{Among}
use Rattle.gql_check_cycles.proofs.Searching.{among_at, away_more}
use Rattle.gql_check_cycles.proofs.search.read_edges.Goals as goal

pub returns-then-b-start-clause-looked : goal.returns-then-b-start-clause-looked
returns-then-b-start-clause-looked g c =
    let e : get_or c.args.edges.now c.loop-b.b-index 0 ≡ c.args.start = search rules in
    let l : c.loop-b.b-index < length c.args.edges.now = search rules in
    subst (λ y. Among y c.args.edges.now) e (among_at c.args.edges.now c.loop-b.b-index l)

pub loop-b-preserved : goal.loop-b-preserved
loop-b-preserved g c =
    let l : c.loop-b.b-index < length c.args.edges.now = search rules in
    record {
      waiting = grind (arith, common_steps);
      away = away_more c.args.edges.now c.loop-b.b-index c.args.start l c.loop-b.invariant.away (λ e. c.if-b-start.false e);
      cost = omega (arith, c.loop-b.invariant.cost, c.tick.ensures);
    }
