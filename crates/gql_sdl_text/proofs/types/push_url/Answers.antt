use Rattle.std.proofs.Common.{◌++◌, ◌∙◌, ap, sym, Some, string_bytes}
use Rattle.std.specs.Option.{option_map}
use Rattle.gql_registry_meta.specs.Views.{text_of}
use Rattle.gql_sdl_view.specs.Spelling.{url_text}
use Rattle.gql_sdl_text.proofs.types.push_url.Goals as goal

pub returns : goal.returns
returns c = c.in_ok-push_quoted_argument.ensures
    ∙ ap (λ u. string_bytes c.args.out.now ++ url_text (Some u)) c.as_str.ensures.value
    ∙ ap (λ o. string_bytes c.args.out.now ++ url_text (option_map text_of o)) (sym c.in-Some.is)
