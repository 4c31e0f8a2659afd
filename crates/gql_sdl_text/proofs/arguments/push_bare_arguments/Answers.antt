use Rattle.std.proofs.Common.{◌++◌, ◌∙◌, ap, sym, map, string_bytes}
use Rattle.gql_registry_meta.specs.Views.{input_value_of}
use Rattle.gql_sdl_view.specs.View.{bare_argument}
use Rattle.gql_sdl_view.specs.Spelling.{bare_arguments_text}
use Rattle.gql_sdl_text.proofs.Lendings.{map-twice, values-changed}
use Rattle.gql_sdl_text.proofs.arguments.push_bare_arguments.Goals as goal

pub returns : goal.returns
returns c = c.in_ok-push_listed_bare_arguments.ensures
    ∙ ap (λ vs. string_bytes c.args.out.now ++ bare_arguments_text (map (λ v. bare_argument (input_value_of v.now)) vs)) c.as_slice.ensures.value
    ∙ ap (λ vs. string_bytes c.args.out.now ++ bare_arguments_text vs)
    (map-twice (λ v. v.now) (λ x. bare_argument (input_value_of x)) c.in_ok-values.values.items
    ∙ ap (map (λ x. bare_argument (input_value_of x))) c.in_ok-values.ensures
    ∙ sym (values-changed input_value_of bare_argument c.args.args.now.entries))
