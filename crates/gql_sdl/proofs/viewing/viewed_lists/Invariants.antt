use Rattle.std.proofs.Common.{◌≡◌, ◌++◌, map}
use Rattle.gql_registry_meta.specs.Views.{texts_of, meta_of}
use Rattle.gql_registry.specs.Registry.{registry_of}
use Rattle.gql_sdl.specs.Taken.{taken_lists}
use Rattle.gql_sdl.proofs.viewing.viewed_lists.Given as goal

-- the lists so far, and those of the types that are left
abbrev pub invariant-loop-ty : goal.invariant-loop-ty
invariant-loop-ty g l =
    map texts_of l.lists.items ++ taken_lists (registry_of l.registry) (map meta_of l.ty-iterator)
    ≡ taken_lists (registry_of l.registry) (map meta_of l.initial.ty-iterator)
