use Rattle.std.proofs.Common.{arith, rules, ◌≡◌, ◌∷◌, [], true, length, refl, sym, ap, ◌∙◌, subst}
use Rattle.std.proofs.lemmas.List.{length-append}
use Rattle.gql_registry_closures.specs.Table.{lists}
use Rattle.gql_registry_closures.specs.Walk.{next_of, is_marked, here, Pending}
use Rattle.gql_registry_closures.proofs.Walks.{next_within, met_at, looked_at, chain_kept, walk_ended}
use Rattle.gql_registry_closures.proofs.search.reach.Goals as goal

pub loop-place-init : goal.loop-place-init
loop-place-init g c = record {
  pending = c.requires.pending;
  sound = λ x e. here x e;
  keeps = λ x e. e;
  size = refl;
}

pub look_at-requires-clause-place : goal.look_at-requires-clause-place
look_at-requires-clause-place g c =
    let next = next_of (g.C.Context.rules c.args.ctx.now) c.args.rules.now (lists c.args.edges.now) in
    let pending = subst (Pending next c.loop-place.marks.items) c.in-Some.ensures.items c.loop-place.invariant.pending in
    omega (arith, next_within next c.loop-place.marks.items c.pop.new.self.items c.in-Some.place pending, c.loop-place.invariant.size, c.requires.edges)

pub loop-place-smaller : goal.loop-place-smaller
loop-place-smaller g c =
    let next = next_of (g.C.Context.rules c.args.ctx.now) c.args.rules.now (lists c.args.edges.now) in
    let meets = met_at (g.C.Context.rules c.args.ctx.now) c.args.rules.now (lists c.args.edges.now) c.loop-place.marks.items c.pop.new.self.items c.in-Some.place c.look_at.new.marks.items c.look_at.new.waiting.items (c.requires.rules ∙ sym c.loop-place.invariant.size) (c.requires.within c.in-Some.place) c.in_ok-look_at.ensures.state in
    omega (arith, meets.works, ap length c.in-Some.ensures.items, length-append c.pop.new.self.items (c.in-Some.place ∷ []))

pub loop-place-preserved : goal.loop-place-preserved
loop-place-preserved g c =
    let next = next_of (g.C.Context.rules c.args.ctx.now) c.args.rules.now (lists c.args.edges.now) in
    let pending = subst (Pending next c.loop-place.marks.items) c.in-Some.ensures.items c.loop-place.invariant.pending in
    let meets = met_at (g.C.Context.rules c.args.ctx.now) c.args.rules.now (lists c.args.edges.now) c.loop-place.marks.items c.pop.new.self.items c.in-Some.place c.look_at.new.marks.items c.look_at.new.waiting.items (c.requires.rules ∙ sym c.loop-place.invariant.size) (c.requires.within c.in-Some.place) c.in_ok-look_at.ensures.state in
    record {
      pending = looked_at next c.loop-place.marks.items c.pop.new.self.items c.in-Some.place c.look_at.new.marks.items c.look_at.new.waiting.items pending meets;
      sound = chain_kept next (λ y. is_marked c.args.marks.now.items y ≡ true) c.loop-place.marks.items c.pop.new.self.items c.in-Some.place c.look_at.new.marks.items c.look_at.new.waiting.items pending meets c.loop-place.invariant.sound;
      keeps = λ y e. meets.keeps y (c.loop-place.invariant.keeps y e);
      size = meets.size ∙ c.loop-place.invariant.size;
    }

pub returns-clause-reached : goal.returns-clause-reached
returns-clause-reached g c =
    let next = next_of (g.C.Context.rules c.args.ctx.now) c.args.rules.now (lists c.args.edges.now) in
    let empty : length c.loop-place.waiting.items ≡ 0 = search rules in
    walk_ended next c.args.marks.now.items c.loop-place.marks.items c.loop-place.waiting.items empty c.loop-place.invariant.pending c.loop-place.invariant.sound c.loop-place.invariant.keeps
