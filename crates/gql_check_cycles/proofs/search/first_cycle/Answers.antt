use Rattle.std.proofs.Common.{arith, ◌≡◌, ◌≤◌, sym, ap, subst}
use Rattle.std.proofs.lemmas.Nat.{mul-le}
use Rattle.gql_check_cycles.specs.Graph.{lists, field_total, needs, IsFirst, nonempty_count}
use Rattle.gql_check_cycles.specs.Pass.{edges_of}
use Rattle.gql_check_cycles.specs.Search.{edge_total, AllWithin}
use Rattle.gql_check_cycles.proofs.Searching.{edges_within, first_along, none_first, totals, busy_le}
use Rattle.gql_check_cycles.proofs.search.first_cycle.Goals as goal

pub first_cyclic-requires : goal.first_cyclic-requires
first_cyclic-requires g c = subst AllWithin (sym (ap lists c.deref.ensures.value)) (edges_within (lists c.in_ok-pass.pass.edges.items) (g.T.Table.rows c.args.table.now) c.requires c.in_ok-pass.ensures.found.3 c.in_ok-pass.ensures.found.0)

pub returns-in_err-found-clause-cost : goal.returns-in_err-found-clause-cost
returns-in_err-found-clause-cost g c =
    let d : lists c.deref.result.now ≡ lists c.in_ok-pass.pass.edges.items = ap lists c.deref.ensures.value in
    let n : nonempty_count (lists c.deref.result.now) ≤ nonempty_count (g.T.Table.rows c.args.table.now) = subst (λ es. nonempty_count es ≤ nonempty_count (g.T.Table.rows c.args.table.now)) (sym d) (busy_le (lists c.in_ok-pass.pass.edges.items) (g.T.Table.rows c.args.table.now) c.in_ok-pass.ensures.found.3 c.in_ok-pass.ensures.found.0) in
    let t : edge_total (lists c.deref.result.now) ≤ field_total (g.T.Table.rows c.args.table.now) = subst (λ es. edge_total es ≤ field_total (g.T.Table.rows c.args.table.now)) (sym d) (totals (lists c.in_ok-pass.pass.edges.items) (g.T.Table.rows c.args.table.now) c.in_ok-pass.ensures.found.3 c.in_ok-pass.ensures.found.0) in
    omega (arith, c.order.ensures.cost, c.first_cyclic.ensures.cost, mul-le (nonempty_count (lists c.deref.result.now)) (edge_total (lists c.deref.result.now)) (nonempty_count (g.T.Table.rows c.args.table.now)) (field_total (g.T.Table.rows c.args.table.now)) n t)

pub returns-clause-cost : goal.returns-clause-cost
returns-clause-cost g c =
    let d : lists c.deref.result.now ≡ lists c.in_ok-pass.pass.edges.items = ap lists c.deref.ensures.value in
    let n : nonempty_count (lists c.deref.result.now) ≤ nonempty_count (g.T.Table.rows c.args.table.now) = subst (λ es. nonempty_count es ≤ nonempty_count (g.T.Table.rows c.args.table.now)) (sym d) (busy_le (lists c.in_ok-pass.pass.edges.items) (g.T.Table.rows c.args.table.now) c.in_ok-pass.ensures.found.3 c.in_ok-pass.ensures.found.0) in
    let t : edge_total (lists c.deref.result.now) ≤ field_total (g.T.Table.rows c.args.table.now) = subst (λ es. edge_total es ≤ field_total (g.T.Table.rows c.args.table.now)) (sym d) (totals (lists c.in_ok-pass.pass.edges.items) (g.T.Table.rows c.args.table.now) c.in_ok-pass.ensures.found.3 c.in_ok-pass.ensures.found.0) in
    omega (arith, c.order.ensures.cost, c.first_cyclic.ensures.cost, mul-le (nonempty_count (lists c.deref.result.now)) (edge_total (lists c.deref.result.now)) (nonempty_count (g.T.Table.rows c.args.table.now)) (field_total (g.T.Table.rows c.args.table.now)) n t)

pub returns-clause-first : goal.returns-clause-first
returns-clause-first g c = first_along (edges_of (lists c.in_ok-pass.pass.edges.items)) (needs (g.T.Table.rows c.args.table.now)) c.in_ok-pass.ensures.found.0 c.in_ok-found.found (subst (λ es. IsFirst (edges_of es) c.in_ok-found.found) (ap lists c.deref.ensures.value) c.in_ok-found.ensures.first)

pub returns-clause-none : goal.returns-clause-none
returns-clause-none g c e = absurd (none_first (needs (g.T.Table.rows c.args.table.now)) c.in_ok-found.found (returns-clause-first g c) (c.in_ok-pass.ensures.found.2 c.if-not-pass.false) e)
