use Rattle.std.proofs.Common.{◌≡◌, ◌++◌, ◌∷◌, [], flat_map}
use Rattle.gql_registry_meta.specs.Views.{text_of}
use Rattle.gql_registry_closures.specs.Links.{plain_link}
use Rattle.gql_registry_closures.specs.Table.{edges_of}
use Rattle.gql_registry_closures.proofs.edges.add_names.Given as goal

-- the edges so far, with those of what is left
abbrev pub invariant-loop-name : goal.invariant-loop-name
invariant-loop-name l =
    l.edges.items ++ flat_map (λ x. edges_of l.numbers (plain_link (text_of x) ∷ [])) l.name-iterator
    ≡ l.initial.edges.items ++ flat_map (λ x. edges_of l.numbers (plain_link (text_of x) ∷ [])) l.initial.name-iterator
