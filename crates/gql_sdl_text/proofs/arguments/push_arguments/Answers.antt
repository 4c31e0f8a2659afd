use Rattle.std.proofs.Common.{◌++◌, ◌∙◌, ap, map, string_bytes}
use Rattle.gql_registry_meta.specs.Views.{input_value_of}
use Rattle.gql_sdl_view.specs.View.{viewed_input_value}
use Rattle.gql_sdl_view.specs.Spelling.{arguments_text}
use Rattle.gql_sdl_text.specs.Views.{layout_view}
use Rattle.gql_sdl_text.proofs.arguments.push_arguments.Goals as goal

pub returns : goal.returns
returns c = c.in_ok-push_listed_arguments.ensures
    ∙ ap (λ vs. string_bytes c.args.out.now ++ arguments_text (layout_view c.args.layout.now) (map (λ v. viewed_input_value (input_value_of v.now)) vs)) c.as_slice.ensures.value
    ∙ ap (λ vs. string_bytes c.args.out.now ++ arguments_text (layout_view c.args.layout.now) vs) c.in_ok-values.ensures
