use Rattle.std.proofs.Common.{◌≡◌, [], take, fold}
use Rattle.gql_registry_meta.specs.Views.{enum_values_in}
use Rattle.gql_registry.specs.Tables.{with_value}
use Rattle.gql_registry.proofs.plain.enum_values.Given as goal

-- the values of the names so far
abbrev pub invariant-loop-name : goal.invariant-loop-name
invariant-loop-name l = enum_values_in l.values ≡ fold (λ values name. with_value values name.now) [] (take l.name-index l.names)
