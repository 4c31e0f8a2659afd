use Rattle.std.proofs.Common.{◌≡◌, ◌++◌, map}
use Rattle.gql_registry_meta.specs.Views.{text_of, texts_in}
use Rattle.gql_registry_closures.proofs.naming.add_values.Given as goal

-- the names so far, with those of what is left
abbrev pub invariant-loop-value : goal.invariant-loop-value
invariant-loop-value l =
    texts_in l.names.items ++ map (λ x. text_of x.name) l.value-iterator
    ≡ texts_in l.initial.names.items ++ map (λ x. text_of x.name) l.initial.value-iterator
