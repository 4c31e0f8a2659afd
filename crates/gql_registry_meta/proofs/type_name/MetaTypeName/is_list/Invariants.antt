use Rattle.std.proofs.Common.{◌≡◌, length}
use Rattle.gql_registry_meta.specs.TypeNames.{type_name_of, type_name_text, reference_of, is_list}
use Rattle.gql_registry_meta.proofs.type_name.MetaTypeName.is_list.Given as goal

abbrev pub invariant-loop-name : goal.invariant-loop-name
invariant-loop-name l = is_list (reference_of l.name) ≡ is_list (reference_of l.fn.self)

abbrev pub decreases-loop-name : goal.decreases-loop-name
decreases-loop-name l = length (type_name_text (type_name_of l.name))
