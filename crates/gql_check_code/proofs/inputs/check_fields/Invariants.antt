use Rattle.gql_check_rules.specs.Rules.{input_field_fault}
use Rattle.gql_check_code.specs.CheckedViews.{schema_of, checked_inputs, HasFirstOf}
use Rattle.gql_check_code.proofs.inputs.check_fields.Given as goal

-- what is left has the first fault of all
abbrev pub invariant-loop-name : goal.invariant-loop-name
invariant-loop-name g l = HasFirstOf (input_field_fault (schema_of l.types) l.ty l.one_of) (checked_inputs l.name-iterator) (checked_inputs l.initial.name-iterator)
