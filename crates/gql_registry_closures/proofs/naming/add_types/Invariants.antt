use Rattle.std.proofs.Common.{◌≡◌, ◌++◌, flat_map}
use Rattle.gql_registry_meta.specs.Views.{texts_in, meta_of}
use Rattle.gql_registry_closures.specs.Names.{type_names}
use Rattle.gql_registry_closures.proofs.naming.add_types.Given as goal

-- the names so far, with those of what is left
abbrev pub invariant-loop-ty : goal.invariant-loop-ty
invariant-loop-ty g l =
    texts_in l.names.items ++ flat_map (λ x. type_names (meta_of x)) l.ty-iterator
    ≡ texts_in l.initial.names.items ++ flat_map (λ x. type_names (meta_of x)) l.initial.ty-iterator
