use Rattle.std.proofs.Common.{◌≡◌, ◌++◌, ◌∷◌, [], flat_map}
use Rattle.gql_registry_meta.specs.Views.{input_value_of}
use Rattle.gql_registry_closures.specs.Links.{input_link}
use Rattle.gql_registry_closures.specs.Table.{edges_of}
use Rattle.gql_registry_closures.proofs.edges.add_inputs.Given as goal

-- the edges so far, with those of what is left
abbrev pub invariant-loop-input : goal.invariant-loop-input
invariant-loop-input l =
    l.edges.items ++ flat_map (λ x. edges_of l.numbers (input_link l.outer (input_value_of x) ∷ [])) l.input-iterator
    ≡ l.initial.edges.items ++ flat_map (λ x. edges_of l.numbers (input_link l.outer (input_value_of x) ∷ [])) l.initial.input-iterator
