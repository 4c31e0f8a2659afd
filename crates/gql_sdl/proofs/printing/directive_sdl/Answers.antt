use Rattle.std.proofs.Common.{◌++◌, ap, ◌∙◌}
use Rattle.gql_registry_meta.specs.Parts.{Text}
use Rattle.gql_registry_meta.specs.Views.{directive_of}
use Rattle.gql_sdl_view.specs.Options.{layout_of}
use Rattle.gql_sdl_view.specs.View.{viewed_directive}
use Rattle.gql_sdl_view.specs.Spelling.{directive_text}
use Rattle.gql_sdl_text.specs.Views.{layout_view}
use Rattle.gql_sdl.specs.Values.{options_of}
use Rattle.gql_sdl.proofs.Laws.{viewed_directive_text}
use Rattle.gql_sdl.proofs.printing.directive_sdl.Goals as goal

pub returns : goal.returns
returns c =
    let directive = directive_of c.args.directive.now in
    c.in_ok-push_directive.ensures
    ∙ ap (λ (t : Text). t ++ directive_text (layout_view c.in_ok-layout.layout) (viewed_directive directive)) c.new-out.ensures.bytes
    ∙ ap (λ l. directive_text l (viewed_directive directive)) c.in_ok-layout.ensures
    ∙ viewed_directive_text (layout_of (options_of c.args.options)) directive
