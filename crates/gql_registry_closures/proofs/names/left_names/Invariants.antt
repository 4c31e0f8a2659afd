use Rattle.std.proofs.Common.{◌≡◌, ◌++◌, map}
use Rattle.gql_registry_meta.specs.Views.{text_of, texts_of}
use Rattle.gql_registry_closures.specs.Walk.{left_of}
use Rattle.gql_registry_closures.proofs.names.left_names.Given as goal

-- the names so far, with those of what is left
abbrev pub invariant-loop-name : goal.invariant-loop-name
invariant-loop-name g l =
    texts_of l.names ++ left_of l.numbers l.marks (map text_of l.name-iterator)
    ≡ left_of l.numbers l.marks (map text_of l.initial.name-iterator)
