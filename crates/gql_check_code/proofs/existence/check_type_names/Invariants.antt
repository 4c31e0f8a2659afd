use Rattle.gql_check_rules.specs.Rules.{name_fault}
use Rattle.gql_check_code.specs.CheckedViews.{checked_definitions, HasFirstOf}
use Rattle.gql_check_code.proofs.existence.check_type_names.Given as goal

-- what is left has the first fault of all
abbrev pub invariant-loop-name : goal.invariant-loop-name
invariant-loop-name g l = HasFirstOf name_fault (checked_definitions l.name-iterator) (checked_definitions l.initial.name-iterator)
