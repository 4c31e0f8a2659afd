use Rattle.std.proofs.Common.{◌≡◌, length}
use Rattle.gql_registry_meta.specs.TypeNames.{type_name_of, type_name_text, reference_of, is_subtype}
use Rattle.gql_registry_meta.proofs.type_name.MetaTypeName.is_subtype.Given as goal

abbrev pub invariant-loop-name : goal.invariant-loop-name
invariant-loop-name l =
    is_subtype (reference_of l.name) (reference_of l.sub)
    ≡ is_subtype (reference_of l.fn.self) (reference_of l.fn.sub)

abbrev pub decreases-loop-name : goal.decreases-loop-name
decreases-loop-name l = length (type_name_text (type_name_of l.sub))
