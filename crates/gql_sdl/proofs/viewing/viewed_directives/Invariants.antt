use Rattle.std.proofs.Common.{◌≡◌, ◌++◌, map}
use Rattle.std.specs.Map.{values_of}
use Rattle.gql_registry_meta.specs.Views.{directive_of}
use Rattle.gql_registry.specs.Registry.{types_of}
use Rattle.gql_sdl_view.specs.View.{viewed_directive, needed}
use Rattle.gql_sdl.proofs.viewing.viewed_directives.Given as goal

-- the definitions so far, and those that are needed of what is left
abbrev pub invariant-loop-directive : goal.invariant-loop-directive
invariant-loop-directive g l =
    map directive_of l.directives.items
    ++ map viewed_directive (needed (values_of (types_of l.registry)) (map directive_of l.directive-iterator))
    ≡ map viewed_directive (needed (values_of (types_of l.registry)) (map directive_of l.initial.directive-iterator))
