use Rattle.std.proofs.Common.{◌≡◌, map, take}
use Rattle.gql_registry.specs.Registry.{registry_of}
use Rattle.gql_registry.specs.Additions.{all_made}
use Rattle.gql_check.proofs.RegistrySteps.{directive_step}
use Rattle.gql_publish_load.proofs.canonical.add_directives.Given as goal

-- some first of the definitions are added
abbrev pub invariant-loop-directive : goal.invariant-loop-directive
invariant-loop-directive g l = registry_of l.registry ≡ all_made (registry_of l.initial.registry) (take l.directive-index (map directive_step l.directives))
