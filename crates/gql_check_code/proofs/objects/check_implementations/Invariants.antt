use Rattle.std.specs.Prelude.{map}
use Rattle.gql_registry_meta.specs.Views.{text_of}
use Rattle.gql_check_rules.specs.Rules.{implements_fault}
use Rattle.gql_check_code.specs.CheckedViews.{schema_of, checked_fields, HasFirstOf}
use Rattle.gql_registry_meta.specs.declared.type_id.MetaTypeId.TheVariants as kind
use Rattle.gql_check_code.proofs.objects.check_implementations.Given as goal

-- what is left has the first fault of all
abbrev pub invariant-loop-name : goal.invariant-loop-name
invariant-loop-name g l = HasFirstOf (implements_fault (schema_of l.types) kind.Object l.ty (checked_fields l.fields.entries)) (map text_of l.name-iterator) (map text_of l.initial.name-iterator)
