use Rattle.gql_check_rules.specs.Rules.{input_missing}
use Rattle.gql_check_code.specs.CheckedViews.{schema_of, checked_inputs, HasFirstOf}
use Rattle.gql_check_code.proofs.existence.check_inputs.Given as goal

-- what is left has the first fault of all
abbrev pub invariant-loop-input : goal.invariant-loop-input
invariant-loop-input g l = HasFirstOf (input_missing (schema_of l.types)) (checked_inputs l.input-iterator) (checked_inputs l.initial.input-iterator)
