use Rattle.std.proofs.Common.{◌++◌, ◌∙◌, ap, sym, codes, rules, string_bytes}
use Rattle.gql_registry_meta.specs.Parts.{Text}
use Rattle.gql_registry_meta.specs.Views.{input_value_of}
use Rattle.gql_sdl_view.specs.View.{bare_argument}
use Rattle.gql_sdl_view.specs.Spelling.{bare_value_text}
use Rattle.gql_sdl_text.proofs.Printing.{join_by_map, bare_some}
use Rattle.gql_sdl_text.proofs.arguments.push_listed_bare_arguments.Goals as goal

pub returns : goal.returns
returns c = c.in_ok-push_enclosed.ensures
    ∙ ap (λ (t : Text). string_bytes c.args.out.now ++ (codes "(" ++ (t ++ codes ")"))) (sym (join_by_map bare_value_text (λ v. bare_argument (input_value_of v.now)) (codes ", ") c.args.values.now))
    ∙ ap (λ (t : Text). string_bytes c.args.out.now ++ t) (sym (bare_some (λ v. bare_argument (input_value_of v.now)) c.args.values.now (search rules)))
