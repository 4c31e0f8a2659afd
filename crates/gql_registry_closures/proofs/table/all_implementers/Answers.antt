use Rattle.std.proofs.Common.{rules, ◌≡◌, ◌++◌, ◌∷◌, [], map, ap, ◌∙◌}
use Rattle.std.specs.Map.{values_of}
use Rattle.gql_registry_meta.specs.Views.{meta_of}
use Rattle.gql_registry_closures.specs.Reached.{implementers_of}
use Rattle.gql_registry_closures.specs.Table.{places_of, lists}
use Rattle.gql_registry_closures.proofs.Lists.{one_item, all_items, lists_last, map_viewed}
use Rattle.gql_registry_closures.proofs.table.all_implementers.Goals as goal

pub loop-ty-preserved : goal.loop-ty-preserved
loop-ty-preserved g c =
    let first : c.loop-ty.ty-iterator ≡ c.in-Some.ty.now ∷ c.next.new.self = search rules in
    one_item (λ x. places_of c.args.numbers.now (implementers_of (meta_of x))) (lists c.loop-ty.implementers.items) (lists c.push.new.self.items) _ c.in-Some.ty.now c.loop-ty.ty-iterator c.next.new.self
    (ap lists c.in_ok-push.ensures.items ∙ lists_last c.loop-ty.implementers.items _ ∙ ap (λ es. lists c.loop-ty.implementers.items ++ es ∷ []) c.in_ok-implementers_of.ensures)
    first c.loop-ty.invariant

pub returns : goal.returns
returns g c =
    let all : c.into_iter-ty-iterator.result ≡ values_of c.args.types.now.entries = search rules in
    let none : c.loop-ty.ty-iterator ≡ [] = search rules in
    all_items (λ x. places_of c.args.numbers.now (implementers_of (meta_of x))) (lists c.loop-ty.implementers.items) _ c.loop-ty.ty-iterator none c.loop-ty.invariant
    ∙ ap (map (λ x. places_of c.args.numbers.now (implementers_of (meta_of x)))) all
    ∙ map_viewed meta_of (λ type. places_of c.args.numbers.now (implementers_of type)) c.args.types.now.entries
