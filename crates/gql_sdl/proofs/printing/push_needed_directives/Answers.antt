use Rattle.std.proofs.Common.{rules, ◌≡◌, [], ◌∷◌}
use Rattle.std.specs.Map.{values_of}
use Rattle.gql_registry_meta.specs.Views.{directive_of}
use Rattle.gql_registry.specs.Registry.{directives_of}
use Rattle.gql_sdl_view.specs.View.{is_needed}
use Rattle.gql_sdl.specs.Registered.{definition_text}
use Rattle.gql_sdl.proofs.Texts.{text_step, text_whole}
use Rattle.gql_sdl_text.specs.Views.{layout_view}
use Rattle.gql_sdl.proofs.printing.push_needed_directives.Goals as goal

pub loop-directive-preserved : goal.loop-directive-preserved
loop-directive-preserved g c = λ types needs.
    let first : c.loop-directive.directive-iterator ≡ c.in-Some.directive.now ∷ c.next.new.self = search rules in
    text_step directive_of (definition_text (layout_view c.args.layout.now)) (is_needed types)
    _ _ _ c.in-Some.directive.now c.loop-directive.directive-iterator c.next.new.self (c.in_ok-push_needed.ensures types needs) first (c.loop-directive.invariant types needs)

pub returns : goal.returns
returns g c = λ types needs.
    let all : c.into_iter-directive-iterator.result ≡ values_of c.directives.result.now.entries = search rules in
    let none : c.loop-directive.directive-iterator ≡ [] = search rules in
    text_whole directive_of (definition_text (layout_view c.args.layout.now)) (is_needed types)
    c.directives.result.now.entries (directives_of c.args.registry.now) _ _ c.loop-directive.directive-iterator c.into_iter-directive-iterator.result none all c.directives.ensures.directives (c.loop-directive.invariant types needs)
