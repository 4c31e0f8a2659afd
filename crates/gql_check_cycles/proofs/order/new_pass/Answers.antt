use Rattle.std.proofs.Common.{rules, ◌≡◌, replicate, length, ap, ◌∙◌, ◌-◌, ℕ, List, Option}
use Rattle.gql_check_cycles.specs.Graph.{unlooked}
use Rattle.gql_check_cycles.proofs.Sums.{weighted_sum-replicate}
use Rattle.gql_check_cycles.proofs.order.new_pass.Goals as goal

pub returns-clause-left : goal.returns-clause-left
returns-clause-left g c =
    let e : c.in_ok-looked.looked.items ≡ replicate (length (g.T.Table.rows c.args.table.now)) 0 = search rules in
    ap (unlooked (g.T.Table.rows c.args.table.now)) e ∙ weighted_sum-replicate (λ (fields : List (Option ℕ)) (n : ℕ). length fields - n) 0 (g.T.Table.rows c.args.table.now) (length (g.T.Table.rows c.args.table.now))
