use Rattle.std.proofs.Common.{◌≡◌, fold, map}
use Rattle.gql_registry_meta.specs.Views.{text_of}
use Rattle.gql_registry.specs.Registry.{names_of, with_name}
use Rattle.gql_registry.proofs.lists.add_names.Given as goal

-- the names so far with those that are left
abbrev pub invariant-loop-other : goal.invariant-loop-other
invariant-loop-other l = fold with_name (names_of l.names) (map text_of l.other-iterator) ≡ fold with_name (names_of l.initial.names) (map text_of l.initial.other-iterator)
