use Rattle.std.proofs.Common.{◌≡◌, map, take}
use Rattle.gql_registry.specs.Registry.{registry_of}
use Rattle.gql_registry.specs.Additions.{all_made}
use Rattle.gql_registry.specs.Tables.{step_of}
use Rattle.gql_registry.proofs.registry.Registry.add_all.Given as goal

-- some first of the additions are made
abbrev pub invariant-loop-addition : goal.invariant-loop-addition
invariant-loop-addition g l = registry_of l.self ≡ all_made (registry_of l.initial.self) (take l.addition-index (map step_of l.additions))
