use Rattle.std.proofs.Common.{◌≡◌, take, length}
use Rattle.gql_registry_closures.specs.Walk.{targets, with_all_met}
use Rattle.gql_registry_closures.proofs.search.follow_all.Given as goal

-- what the edges so far lead to was met
abbrev pub invariant-loop-edge : goal.invariant-loop-edge
invariant-loop-edge g l = record {
  state : (l.marks.items, l.waiting.items) ≡ with_all_met (l.initial.marks.items, l.initial.waiting.items) (targets (g.C.Context.rules l.ctx) l.rules (take l.edge-index l.edges));
  size : length l.marks.items ≡ length l.initial.marks.items;
}
