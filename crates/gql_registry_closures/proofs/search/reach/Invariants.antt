use Rattle.std.proofs.Common.{◌≡◌, ◌+◌, ℕ, true, length}
use Rattle.gql_registry_closures.specs.Table.{lists}
use Rattle.gql_registry_closures.specs.Walk.{next_of, is_marked, Chain, Pending, unmarked}
use Rattle.gql_registry_closures.proofs.search.reach.Given as goal

-- what is marked is reached, what it leads to is marked unless it waits, and what was marked is
abbrev pub invariant-loop-place : goal.invariant-loop-place
invariant-loop-place g l = record {
  pending : Pending (next_of (g.C.Context.rules l.ctx) l.rules (lists l.edges)) l.marks.items l.waiting.items;
  sound : (x : ℕ) → is_marked l.marks.items x ≡ true → Chain (next_of (g.C.Context.rules l.ctx) l.rules (lists l.edges)) (λ y. is_marked l.initial.marks.items y ≡ true) x;
  keeps : (x : ℕ) → is_marked l.initial.marks.items x ≡ true → is_marked l.marks.items x ≡ true;
  size : length l.marks.items ≡ length l.initial.marks.items;
}

-- each type is marked once, and looked at once after that
abbrev pub decreases-loop-place : goal.decreases-loop-place
decreases-loop-place g l = unmarked l.marks.items + length l.waiting.items
