use Rattle.std.proofs.Common.{rules, ◌≡◌, [], ◌∷◌}
use Rattle.std.specs.Map.{values_of}
use Rattle.gql_registry_meta.specs.Parts.{name_of}
use Rattle.gql_registry_meta.specs.Views.{meta_of}
use Rattle.gql_registry.specs.Registry.{types_of, lists_of, implements_listed}
use Rattle.gql_sdl_view.specs.View.{is_shown}
use Rattle.gql_sdl.proofs.Taken.{taken_step, taken_whole}
use Rattle.gql_sdl.proofs.viewing.viewed_lists.Goals as goal

pub loop-ty-preserved : goal.loop-ty-preserved
loop-ty-preserved g c =
    let first : c.loop-ty.ty-iterator ≡ c.in-Some.ty.now ∷ c.next.new.self = search rules in
    taken_step meta_of (λ type. implements_listed (name_of type) (lists_of c.args.registry.now)) is_shown
    _ _ _ c.in-Some.ty.now c.loop-ty.ty-iterator c.next.new.self c.in_ok-take_list.ensures first c.loop-ty.invariant

pub returns : goal.returns
returns g c =
    let all : c.into_iter-ty-iterator.result ≡ values_of c.types.result.now.entries = search rules in
    let none : c.loop-ty.ty-iterator ≡ [] = search rules in
    taken_whole meta_of (λ type. implements_listed (name_of type) (lists_of c.args.registry.now)) is_shown
    c.types.result.now.entries (types_of c.args.registry.now) _ c.loop-ty.ty-iterator c.into_iter-ty-iterator.result none all c.types.ensures.types c.loop-ty.invariant
