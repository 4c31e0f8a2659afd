use Rattle.std.proofs.Common.{◌≡◌, ◌++◌, flat_map}
use Rattle.gql_registry_meta.specs.Views.{text_of, meta_of}
use Rattle.gql_registry_closures.specs.Links.{keyed_links}
use Rattle.gql_registry_closures.specs.Table.{edges_of}
use Rattle.gql_registry_closures.proofs.table.add_all_keyed.Given as goal

-- the edges so far, with those of what is left
abbrev pub invariant-loop-name : goal.invariant-loop-name
invariant-loop-name g l =
    l.starts.items ++ flat_map (λ e. edges_of l.numbers (keyed_links (text_of e.0, meta_of e.1))) l.name-iterator
    ≡ l.initial.starts.items ++ flat_map (λ e. edges_of l.numbers (keyed_links (text_of e.0, meta_of e.1))) l.initial.name-iterator
