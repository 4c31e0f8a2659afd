use Rattle.gql_check_rules.specs.Rules.{field_fault}
use Rattle.gql_check_code.specs.CheckedViews.{schema_of, checked_fields, HasFirstOf}
use Rattle.gql_check_code.proofs.fields.check_fields.Given as goal

-- what is left has the first fault of all
abbrev pub invariant-loop-name : goal.invariant-loop-name
invariant-loop-name g l = HasFirstOf (field_fault (schema_of l.types) l.ty) (checked_fields l.name-iterator) (checked_fields l.initial.name-iterator)
