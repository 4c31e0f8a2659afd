use Rattle.std.proofs.Common.{rules, ◌≡◌, []}
use Rattle.std.specs.Map.{values_of}
use Rattle.gql_registry_meta.specs.Views.{meta_of}
use Rattle.gql_registry.specs.Registry.{registry_of, types_of}
use Rattle.gql_sdl_view.specs.Options.{registry_choice}
use Rattle.gql_sdl_view.specs.View.{viewed_type, is_shown}
use Rattle.gql_sdl.specs.Values.{options_of}
use Rattle.gql_sdl.proofs.Taken.{taken_whole}
use Rattle.gql_sdl.proofs.viewing.fill_types.Goals as goal

pub returns : goal.returns
returns g c =
    let all : c.into_iter-ty-iterator.result ≡ values_of c.types.result.now.entries = search rules in
    let none : c.loop-ty.ty-iterator ≡ [] = search rules in
    taken_whole meta_of (viewed_type (registry_choice (options_of c.args.options)) (registry_of c.args.registry.now).subscription) is_shown
    c.types.result.now.entries (types_of c.args.registry.now) _ c.loop-ty.ty-iterator c.into_iter-ty-iterator.result none all c.types.ensures.types c.loop-ty.invariant
