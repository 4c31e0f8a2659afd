use Rattle.std.specs.Prelude.{map}
use Rattle.gql_registry_meta.specs.Views.{text_of}
use Rattle.gql_check_rules.specs.Rules.{name_missing}
use Rattle.gql_check_code.specs.CheckedViews.{schema_of, HasFirstOf}
use Rattle.gql_check_code.proofs.existence.check_names.Given as goal

-- what is left has the first fault of all
abbrev pub invariant-loop-name : goal.invariant-loop-name
invariant-loop-name g l = HasFirstOf (name_missing (schema_of l.types)) (map text_of l.name-iterator) (map text_of l.initial.name-iterator)
