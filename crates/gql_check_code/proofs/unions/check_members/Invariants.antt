use Rattle.std.specs.Prelude.{map}
use Rattle.gql_registry_meta.specs.Views.{text_of}
use Rattle.gql_check_rules.specs.Rules.{member_fault}
use Rattle.gql_check_code.specs.CheckedViews.{schema_of, HasFirstOf}
use Rattle.gql_check_code.proofs.unions.check_members.Given as goal

-- what is left has the first fault of all
abbrev pub invariant-loop-member : goal.invariant-loop-member
invariant-loop-member g l = HasFirstOf (member_fault (schema_of l.types) l.ty) (map text_of l.member-iterator) (map text_of l.initial.member-iterator)
