use Rattle.std.proofs.Common.{◌≡◌, ◌++◌, flat_map}
use Rattle.gql_registry_meta.specs.Views.{field_of}
use Rattle.gql_registry_closures.specs.Links.{field_links}
use Rattle.gql_registry_closures.specs.Table.{edges_of}
use Rattle.gql_registry_closures.proofs.edges.add_fields.Given as goal

-- the edges so far, with those of what is left
abbrev pub invariant-loop-field : goal.invariant-loop-field
invariant-loop-field l =
    l.edges.items ++ flat_map (λ x. edges_of l.numbers (field_links (field_of x))) l.field-iterator
    ≡ l.initial.edges.items ++ flat_map (λ x. edges_of l.numbers (field_links (field_of x))) l.initial.field-iterator
