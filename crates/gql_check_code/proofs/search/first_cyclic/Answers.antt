use Rattle.std.proofs.Common.{arith, subst, ◌∙◌, None, Some}
use Rattle.gql_check_cycles.specs.Graph as graph
use Rattle.gql_check_code.specs.Cycles.{numbered}
use Rattle.gql_check_code.specs.CheckedViews.{schema_of}
use Rattle.gql_check_code.proofs.Numbering.{numbers_within, first_by_number, same_total, same_bound}
use Rattle.gql_check_code.proofs.search.first_cyclic.Goals as goal

pub first_cycle-requires : goal.first_cycle-requires
first_cycle-requires g c = numbers_within (schema_of c.args.types.now)

pub returns-in_err-first_cycle-clause-cost : goal.returns-in_err-first_cycle-clause-cost
returns-in_err-first_cycle-clause-cost g c = omega (arith, c.first_cycle.ensures.cost, same_bound (schema_of c.args.types.now))

pub returns-in-None-clause-first : goal.returns-in-None-clause-first
returns-in-None-clause-first g c = first_by_number c.cycle_laws.ensures.reaching (schema_of c.args.types.now) c.distinct_names.ensures None (subst (graph.IsFirst (graph.needs (numbered (schema_of c.args.types.now)))) c.in-None.is c.in_ok-first_cycle.ensures.first)

pub returns-in-None-clause-none : goal.returns-in-None-clause-none
returns-in-None-clause-none g c e = omega (arith, c.in_ok-first_cycle.ensures.none c.in-None.is, same_total (schema_of c.args.types.now))

pub returns-in-None-clause-cost : goal.returns-in-None-clause-cost
returns-in-None-clause-cost g c = omega (arith, c.first_cycle.ensures.cost, same_bound (schema_of c.args.types.now))

pub returns-in-Some-clause-first : goal.returns-in-Some-clause-first
returns-in-Some-clause-first g c = c.name_of.ensures ∙ first_by_number c.cycle_laws.ensures.reaching (schema_of c.args.types.now) c.distinct_names.ensures (Some c.in-Some.node) (subst (graph.IsFirst (graph.needs (numbered (schema_of c.args.types.now)))) c.in-Some.is c.in_ok-first_cycle.ensures.first)

pub returns-in-Some-clause-cost : goal.returns-in-Some-clause-cost
returns-in-Some-clause-cost g c = omega (arith, c.first_cycle.ensures.cost, same_bound (schema_of c.args.types.now))
