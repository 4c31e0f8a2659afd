use Rattle.std.proofs.Common.{◌++◌, ap, sym, ◌∙◌, map, string_bytes}
use Rattle.std.specs.List.{flat_map}
use Rattle.std.proofs.lemmas.List.Folds.{flat_map-map}
use Rattle.gql_registry_meta.specs.Parts.{Text}
use Rattle.gql_registry_meta.specs.Views.{directive_of}
use Rattle.gql_registry_meta.specs.declared.directive.MetaDirective.{MetaDirective}
use Rattle.gql_sdl_text.specs.Views.{layout_view}
use Rattle.gql_sdl.specs.Registered.{definition_text}
use Rattle.gql_sdl.proofs.Texts.{text_next, places_done, definitions_text}
use Rattle.gql_sdl.proofs.printing.push_directives.Goals as goal

pub loop-directive-preserved : goal.loop-directive-preserved
loop-directive-preserved g c =
    let text = λ (d : MetaDirective). definition_text (layout_view c.args.layout.now) (directive_of d) in
    text_next text c.deref-directive-items.result.now c.loop-directive.directive-index c.directive-item.result _ _ _ c.loop-directive-test.true
    (c.in_ok-push_definition.ensures ∙ ap (λ d. string_bytes c.loop-directive.out ++ text d) c.directive-item.is)
    c.loop-directive.invariant

pub returns : goal.returns
returns g c =
    let layout = layout_view c.args.layout.now in
    let text = λ (d : MetaDirective). definition_text layout (directive_of d) in
    let before : Text = string_bytes c.args.out.now in
    places_done text c.deref-directive-items.result.now c.loop-directive.directive-index _ _ c.loop-directive-test.false c.loop-directive.invariant
    ∙ ap (λ l. before ++ flat_map text l) c.deref-directive-items.ensures.value
    ∙ ap (λ (t : Text). before ++ t) (sym (flat_map-map (definition_text layout) directive_of c.args.view.now.directives.items) ∙ definitions_text layout (map directive_of c.args.view.now.directives.items))
