use Rattle.std.proofs.Common.{◌≡◌, ◌++◌, map, take}
use Rattle.gql_registry_meta.specs.Views.{texts_in}
use Rattle.gql_registry_closures.specs.Links.{plain_link}
use Rattle.gql_registry_closures.specs.Table.{edges_of}
use Rattle.gql_registry_closures.proofs.table.add_roots.Given as goal

-- the edges so far
abbrev pub invariant-loop-root : goal.invariant-loop-root
invariant-loop-root l = l.starts.items ≡ l.initial.starts.items ++ edges_of l.numbers (map plain_link (texts_in (take l.root-index l.roots)))
