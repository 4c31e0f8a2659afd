use Rattle.gql_check_rules.specs.Rules.{field_missing}
use Rattle.gql_check_code.specs.CheckedViews.{schema_of, checked_subscription_fields, HasFirstOf}
use Rattle.gql_check_code.proofs.existence.check_subscription_fields.Given as goal

-- what is left has the first fault of all
abbrev pub invariant-loop-name : goal.invariant-loop-name
invariant-loop-name g l = HasFirstOf (field_missing (schema_of l.types)) (checked_subscription_fields l.name-iterator) (checked_subscription_fields l.initial.name-iterator)
