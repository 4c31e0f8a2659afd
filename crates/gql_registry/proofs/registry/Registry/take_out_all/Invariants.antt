use Rattle.std.proofs.Common.{◌≡◌, map, take}
use Rattle.gql_registry_meta.specs.Views.{text_of}
use Rattle.gql_registry.specs.Registry.{registry_of}
use Rattle.gql_registry.specs.Created.{without_all}
use Rattle.gql_registry.proofs.registry.Registry.take_out_all.Given as goal

-- what stands under some first of the names is taken out
abbrev pub invariant-loop-name : goal.invariant-loop-name
invariant-loop-name g l = registry_of l.self ≡ without_all (registry_of l.initial.self) (take l.name-index (map text_of l.names))
