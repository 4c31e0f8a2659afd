use Rattle.std.proofs.Common.{◌≡◌, ◌++◌, map}
use Rattle.gql_registry_meta.specs.Views.{text_of, texts_in}
use Rattle.gql_registry_closures.proofs.naming.add_inputs.Given as goal

-- the names so far, with those of what is left
abbrev pub invariant-loop-input : goal.invariant-loop-input
invariant-loop-input l =
    texts_in l.names.items ++ map (λ x. text_of x.name) l.input-iterator
    ≡ texts_in l.initial.names.items ++ map (λ x. text_of x.name) l.initial.input-iterator
