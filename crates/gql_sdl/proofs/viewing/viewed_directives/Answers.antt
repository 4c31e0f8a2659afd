use Rattle.std.proofs.Common.{rules, ◌≡◌, [], ◌∷◌, ap, ◌∙◌}
use Rattle.std.specs.Map.{values_of}
use Rattle.gql_registry_meta.specs.Views.{directive_of}
use Rattle.gql_registry.specs.Registry.{types_of, directives_of}
use Rattle.gql_sdl_view.specs.View.{viewed_directive, is_needed}
use Rattle.gql_sdl.specs.Needs.{needs_of}
use Rattle.gql_sdl.proofs.Taken.{taken_step, taken_whole}
use Rattle.gql_sdl.proofs.viewing.viewed_directives.Goals as goal

pub loop-directive-preserved : goal.loop-directive-preserved
loop-directive-preserved g c =
    let types = values_of (types_of c.args.registry.now) in
    let first : c.loop-directive.directive-iterator ≡ c.in-Some.directive.now ∷ c.next.new.self = search rules in
    let needs : c.of-needs.result ≡ needs_of types = c.of-needs.ensures ∙ ap (λ l. needs_of (values_of l)) c.types.ensures.types in
    taken_step directive_of viewed_directive (is_needed types)
    _ _ _ c.in-Some.directive.now c.loop-directive.directive-iterator c.next.new.self (c.in_ok-take_directive.ensures types needs) first c.loop-directive.invariant

pub returns : goal.returns
returns g c =
    let all : c.into_iter-directive-iterator.result ≡ values_of c.directives.result.now.entries = search rules in
    let none : c.loop-directive.directive-iterator ≡ [] = search rules in
    taken_whole directive_of viewed_directive (is_needed (values_of (types_of c.args.registry.now)))
    c.directives.result.now.entries (directives_of c.args.registry.now) _ c.loop-directive.directive-iterator c.into_iter-directive-iterator.result none all c.directives.ensures.directives c.loop-directive.invariant
