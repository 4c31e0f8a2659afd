use Rattle.std.proofs.Common.{◌≡◌, ◌++◌, ◌∷◌, [], flat_map}
use Rattle.gql_registry_meta.specs.Views.{text_of}
use Rattle.gql_registry_closures.specs.Table.{places_of}
use Rattle.gql_registry_closures.proofs.edges.places_of.Given as goal

-- the places so far, with those of what is left
abbrev pub invariant-loop-name : goal.invariant-loop-name
invariant-loop-name l =
    l.places.items ++ flat_map (λ x. places_of l.numbers (text_of x ∷ [])) l.name-iterator
    ≡ flat_map (λ x. places_of l.numbers (text_of x ∷ [])) l.initial.name-iterator
