use Rattle.std.proofs.Common.{rules, ◌≡◌, [], ◌∷◌}
use Rattle.std.specs.Map.{values_of}
use Rattle.gql_registry_meta.specs.Views.{meta_of}
use Rattle.gql_registry.specs.Registry.{registry_of, types_of}
use Rattle.gql_sdl_view.specs.View.{is_shown}
use Rattle.gql_sdl_text.specs.Views.{layout_view, choice_view}
use Rattle.gql_sdl.specs.Registered.{registered_text}
use Rattle.gql_sdl.proofs.Texts.{text_step, text_whole}
use Rattle.gql_sdl.proofs.printing.push_shown_types.Goals as goal

pub loop-ty-preserved : goal.loop-ty-preserved
loop-ty-preserved g c =
    let first : c.loop-ty.ty-iterator ≡ c.in-Some.ty.now ∷ c.next.new.self = search rules in
    text_step meta_of (registered_text (layout_view c.args.layout.now) (choice_view c.args.choice) (registry_of c.args.registry.now)) is_shown
    _ _ _ c.in-Some.ty.now c.loop-ty.ty-iterator c.next.new.self c.in_ok-push_shown.ensures first c.loop-ty.invariant

pub returns : goal.returns
returns g c =
    let all : c.into_iter-ty-iterator.result ≡ values_of c.types.result.now.entries = search rules in
    let none : c.loop-ty.ty-iterator ≡ [] = search rules in
    text_whole meta_of (registered_text (layout_view c.args.layout.now) (choice_view c.args.choice) (registry_of c.args.registry.now)) is_shown
    c.types.result.now.entries (types_of c.args.registry.now) _ _ c.loop-ty.ty-iterator c.into_iter-ty-iterator.result none all c.types.ensures.types c.loop-ty.invariant
