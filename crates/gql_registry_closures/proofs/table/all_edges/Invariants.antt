use Rattle.std.proofs.Common.{◌≡◌, ◌++◌, map}
use Rattle.gql_registry_meta.specs.Views.{meta_of}
use Rattle.gql_registry_closures.specs.Links.{links_of}
use Rattle.gql_registry_closures.specs.Table.{edges_of, lists}
use Rattle.gql_registry_closures.proofs.table.all_edges.Given as goal

-- the edges so far, with those of what is left
abbrev pub invariant-loop-ty : goal.invariant-loop-ty
invariant-loop-ty g l =
    lists l.edges.items ++ map (λ x. edges_of l.numbers (links_of (meta_of x))) l.ty-iterator
    ≡ map (λ x. edges_of l.numbers (links_of (meta_of x))) l.initial.ty-iterator
