use Rattle.std.specs.Prelude.{map}
use Rattle.gql_registry_meta.specs.Views.{text_of}
use Rattle.gql_check_rules.specs.Rules.{interface_implements_fault}
use Rattle.gql_check_code.specs.CheckedViews.{schema_of, checked_fields, HasFirstOf}
use Rattle.gql_check_code.proofs.interfaces.check_implementations.Given as goal

-- what is left has the first fault of all
abbrev pub invariant-loop-name : goal.invariant-loop-name
invariant-loop-name g l = HasFirstOf (interface_implements_fault (schema_of l.types) l.ty (checked_fields l.fields.entries)) (map text_of l.name-iterator) (map text_of l.initial.name-iterator)
