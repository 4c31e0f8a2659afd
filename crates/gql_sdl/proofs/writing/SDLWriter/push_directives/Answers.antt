use Rattle.std.proofs.Common.{◌++◌, ap, ◌∙◌, string_bytes}
use Rattle.std.specs.Map.{values_of}
use Rattle.gql_registry_meta.specs.Parts.{Text}
use Rattle.gql_registry.specs.Registry.{directives_of}
use Rattle.gql_sdl_text.specs.Views.{layout_view}
use Rattle.gql_sdl.specs.Writing.{Written, written_by}
use Rattle.gql_sdl.proofs.Texts.{needed_directives_text}
use Rattle.gql_sdl.proofs.writing.SDLWriter.push_directives.Goals as goal

pub returns : goal.returns
returns g c = λ types needs.
    let before = written_by c.args.self.now in
    ap (λ (t : Text). record before { text = t })
    (c.in_ok-push_needed_directives.ensures types needs
    ∙ ap (λ (t : Text). before.text ++ t) (needed_directives_text before.layout types (values_of (directives_of c.args.registry.now))))
