use Rattle.std.proofs.Common.{◌≡◌, length}
use Rattle.gql_registry_closures.specs.Walk.{IsClosed, steps_of, JoinsUpTo}
use Rattle.gql_registry_closures.proofs.search.join_all.Given as goal

-- the interfaces so far are added, with what they reach
abbrev pub invariant-loop-place : goal.invariant-loop-place
invariant-loop-place g l = record {
  joined : JoinsUpTo (g.C.Context.rules l.ctx) l.table l.initial.marks.items l.place l.marks.items;
  closed : IsClosed (steps_of (g.C.Context.rules l.ctx) l.table) l.marks.items;
  size : length l.marks.items ≡ length l.initial.marks.items;
}
