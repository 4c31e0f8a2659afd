use Rattle.gql_check_rules.specs.Rules.{union_fault}
use Rattle.gql_check_code.specs.CheckedViews.{schema_of, checked_definitions, HasFirstOf}
use Rattle.gql_check_code.proofs.unions.check_unions.Given as goal

-- what is left has the first fault of all
abbrev pub invariant-loop-name : goal.invariant-loop-name
invariant-loop-name g l = HasFirstOf (union_fault (schema_of l.types)) (checked_definitions l.name-iterator) (checked_definitions l.initial.name-iterator)
