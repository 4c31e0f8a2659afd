use Rattle.gql_check_rules.specs.Rules.{argument_implemented}
use Rattle.gql_check_code.specs.CheckedViews.{implementation_of, checked_inputs, checked_field, HasFirstOf}
use Rattle.gql_check_code.proofs.implementation.check_arguments.Given as goal

-- what is left has the first fault of all
abbrev pub invariant-loop-name : goal.invariant-loop-name
invariant-loop-name g l = HasFirstOf (argument_implemented (implementation_of l.implementation) l.field (checked_field l.own)) (checked_inputs l.name-iterator) (checked_inputs l.initial.name-iterator)
