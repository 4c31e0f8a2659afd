use Rattle.gql_check_rules.specs.Rules.{argument_fault}
use Rattle.gql_check_code.specs.CheckedViews.{schema_of, checked_inputs, HasFirstOf}
use Rattle.gql_check_code.proofs.fields.check_arguments.Given as goal

-- what is left has the first fault of all
abbrev pub invariant-loop-name : goal.invariant-loop-name
invariant-loop-name g l = HasFirstOf (argument_fault (schema_of l.types) l.ty l.field) (checked_inputs l.name-iterator) (checked_inputs l.initial.name-iterator)
