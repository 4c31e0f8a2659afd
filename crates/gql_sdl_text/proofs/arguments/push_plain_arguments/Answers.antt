use Rattle.std.proofs.Common.{◌++◌, ◌∙◌, ap, sym, codes, string_bytes}
use Rattle.gql_registry_meta.specs.Parts.{Text}
use Rattle.gql_registry_meta.specs.Views.{input_value_of}
use Rattle.gql_sdl_view.specs.View.{viewed_input_value}
use Rattle.gql_sdl_view.specs.Spelling.{input_value_text}
use Rattle.gql_sdl_text.proofs.Printing.{join_by_map}
use Rattle.gql_sdl_text.proofs.arguments.push_plain_arguments.Goals as goal

pub returns : goal.returns
returns c = c.in_ok-push_enclosed.ensures
    ∙ ap (λ (t : Text). string_bytes c.args.out.now ++ (codes "(" ++ (t ++ codes ")"))) (sym (join_by_map input_value_text (λ v. viewed_input_value (input_value_of v.now)) (codes ", ") c.args.values.now))
