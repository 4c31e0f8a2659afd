use Rattle.std.proofs.Common.{◌≡◌, ◌++◌, flat_map}
use Rattle.gql_registry_meta.specs.Views.{texts_in, directive_of}
use Rattle.gql_registry_closures.specs.Names.{directive_names}
use Rattle.gql_registry_closures.proofs.naming.add_directives.Given as goal

-- the names so far, with those of what is left
abbrev pub invariant-loop-directive : goal.invariant-loop-directive
invariant-loop-directive l =
    texts_in l.names.items ++ flat_map (λ x. directive_names (directive_of x)) l.directive-iterator
    ≡ texts_in l.initial.names.items ++ flat_map (λ x. directive_names (directive_of x)) l.initial.directive-iterator
