use Rattle.std.proofs.Common.{◌+◌, refl, ◌∙◌}
use Rattle.gql_registry_closures.specs.Table.{lists}
use Rattle.gql_registry_closures.specs.Walk.{joins, steps_of, none_yet, one_more}
use Rattle.gql_registry_closures.proofs.Walks.{joined_closed}
use Rattle.gql_registry_closures.proofs.search.join_all.Goals as goal

pub loop-place-init : goal.loop-place-init
loop-place-init g c = record {
  joined = none_yet 0 c.args.marks.now.items refl refl;
  closed = c.requires.closed;
  size = refl;
}

pub loop-place-preserved : goal.loop-place-preserved
loop-place-preserved g c =
    let holds = g.C.Context.rules c.args.ctx.now in
    let table = c.args.table.now in
    let before = c.loop-place.marks.items in
    record {
      joined = one_more c.loop-place.place (c.loop-place.place + 1) before c.join.new.marks.items refl c.loop-place.invariant.joined c.join.ensures.size c.in_ok-join.ensures.joined;
      closed = joined_closed (steps_of holds table) (joins holds table.rules.items (lists table.implementers.items) before c.loop-place.place) c.loop-place.place before c.join.new.marks.items c.loop-place.invariant.closed c.in_ok-join.ensures.joined;
      size = c.join.ensures.size ∙ c.loop-place.invariant.size;
    }
