use Rattle.std.proofs.Common.{◌≡◌, ◌++◌, map}
use Rattle.gql_registry_meta.specs.Views.{meta_of}
use Rattle.gql_registry.specs.Registry.{registry_of}
use Rattle.gql_sdl.specs.Values.{options_of}
use Rattle.gql_sdl.specs.Taken.{taken_types}
use Rattle.gql_sdl.proofs.viewing.fill_types.Given as goal

-- the types so far, and what is taken of those that are left
abbrev pub invariant-loop-ty : goal.invariant-loop-ty
invariant-loop-ty g l =
    map meta_of l.types.items ++ taken_types (options_of l.options) (registry_of l.registry) (map meta_of l.ty-iterator)
    ≡ taken_types (options_of l.options) (registry_of l.registry) (map meta_of l.initial.ty-iterator)
