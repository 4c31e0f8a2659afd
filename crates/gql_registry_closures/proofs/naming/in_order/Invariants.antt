use Rattle.std.proofs.Common.{◌≡◌, ◌++◌, map}
use Rattle.gql_registry_meta.specs.Views.{text_of, texts_of}
use Rattle.gql_registry_closures.proofs.naming.in_order.Given as goal

-- the texts so far, with those of what is left
abbrev pub invariant-loop-name : goal.invariant-loop-name
invariant-loop-name l = texts_of l.names ++ map text_of l.name-iterator ≡ map text_of l.initial.name-iterator
