use Rattle.gql_check_rules.specs.Rules.{field_implemented}
use Rattle.gql_check_code.specs.CheckedViews.{implementation_of, schema_of, checked_fields, HasFirstOf}
use Rattle.gql_check_code.proofs.implementation.check_fields.Given as goal

-- what is left has the first fault of all
abbrev pub invariant-loop-name : goal.invariant-loop-name
invariant-loop-name g l = HasFirstOf (field_implemented (schema_of l.types) (implementation_of l.implementation) (checked_fields l.fields.entries)) (checked_fields l.name-iterator) (checked_fields l.initial.name-iterator)
