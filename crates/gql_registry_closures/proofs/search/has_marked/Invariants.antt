use Rattle.std.proofs.Common.{◌≡◌, false, take}
use Rattle.std.specs.List.{list_any}
use Rattle.gql_registry_closures.specs.Walk.{is_marked}
use Rattle.gql_registry_closures.proofs.search.has_marked.Given as goal

-- none so far is marked
abbrev pub invariant-loop-place : goal.invariant-loop-place
invariant-loop-place l = list_any (is_marked l.marks) (take l.place-index l.places) ≡ false
