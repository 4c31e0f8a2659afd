use Rattle.std.proofs.Common.{◌≡◌, ◌++◌, flat_map}
use Rattle.gql_registry_meta.specs.Views.{directive_of}
use Rattle.gql_registry_closures.specs.Links.{directive_links}
use Rattle.gql_registry_closures.specs.Table.{edges_of}
use Rattle.gql_registry_closures.proofs.table.add_directives.Given as goal

-- the edges so far, with those of what is left
abbrev pub invariant-loop-directive : goal.invariant-loop-directive
invariant-loop-directive l =
    l.starts.items ++ flat_map (λ x. edges_of l.numbers (directive_links (directive_of x))) l.directive-iterator
    ≡ l.initial.starts.items ++ flat_map (λ x. edges_of l.numbers (directive_links (directive_of x))) l.initial.directive-iterator
