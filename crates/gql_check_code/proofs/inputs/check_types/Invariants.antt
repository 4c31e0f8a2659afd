use Rattle.std.proofs.Common.{◌≡◌}
use Rattle.std.specs.Option.{option_copied}
use Rattle.gql_check_rules.specs.Rules.{input_fault, first_cycle}
use Rattle.gql_check_code.specs.CheckedViews.{schema_of, checked_definitions, HasFirstOf}
use Rattle.gql_check_code.proofs.inputs.check_types.Given as goal

-- what is left has the first fault of all, and the first cycle
abbrev pub invariant-loop-name : goal.invariant-loop-name
invariant-loop-name g l = record {
  fault : HasFirstOf (input_fault (schema_of l.types)) (checked_definitions l.name-iterator) (checked_definitions l.initial.name-iterator);
  cycle : option_copied l.cycle ≡ first_cycle (schema_of l.types) (checked_definitions l.name-iterator);
}
