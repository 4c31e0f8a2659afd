use Rattle.std.proofs.Common.{◌≡◌, map}
use Rattle.std.specs.List.{list_any}
use Rattle.gql_registry_meta.specs.Kinds.{is_possible_type}
use Rattle.gql_registry_meta.specs.Views.{text_of, meta_of}
use Rattle.gql_registry_meta.proofs.accessors.has_possible.Given as goal

-- one of those that are left is a possible type where one of all is
abbrev pub invariant-loop-name : goal.invariant-loop-name
invariant-loop-name g l =
    list_any (λ name. is_possible_type name (meta_of l.ty)) (map text_of l.name-iterator) ≡ list_any (λ name. is_possible_type name (meta_of l.ty)) (map text_of l.fn.names.keys)
