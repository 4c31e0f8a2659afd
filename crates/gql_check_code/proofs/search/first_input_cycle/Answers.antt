use Rattle.std.proofs.Common.{◌≡◌, ◌↔◌, None, subst, sym}
use Rattle.gql_check_rules.specs.InputCycles.{HasFiniteValues}
use Rattle.gql_check_code.specs.CheckedViews.{schema_of}
use Rattle.gql_check_code.proofs.search.first_input_cycle.Goals as goal

pub returns-clause-finite : goal.returns-clause-finite
returns-clause-finite g c =
    let schema = schema_of c.args.types.now in
    subst (λ first. (first ≡ None) ↔ HasFiniteValues schema) (sym c.in_ok-found.ensures.first) (c.cycle_laws.ensures.finite schema)
