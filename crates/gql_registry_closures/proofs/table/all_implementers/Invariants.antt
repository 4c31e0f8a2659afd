use Rattle.std.proofs.Common.{◌≡◌, ◌++◌, map}
use Rattle.gql_registry_meta.specs.Views.{meta_of}
use Rattle.gql_registry_closures.specs.Reached.{implementers_of}
use Rattle.gql_registry_closures.specs.Table.{places_of, lists}
use Rattle.gql_registry_closures.proofs.table.all_implementers.Given as goal

-- the places so far, with those of what is left
abbrev pub invariant-loop-ty : goal.invariant-loop-ty
invariant-loop-ty g l =
    lists l.implementers.items ++ map (λ x. places_of l.numbers (implementers_of (meta_of x))) l.ty-iterator
    ≡ map (λ x. places_of l.numbers (implementers_of (meta_of x))) l.initial.ty-iterator
