use Rattle.std.proofs.Common.{◌++◌, ◌∙◌, ap, sym, codes, string_bytes}
use Rattle.std.specs.List.{join_by}
use Rattle.gql_registry_meta.specs.Parts.{Text}
use Rattle.gql_registry_meta.specs.Views.{input_value_of}
use Rattle.gql_sdl_view.specs.View.{viewed_input_value}
use Rattle.gql_sdl_view.specs.Spelling.{described_argument_text}
use Rattle.gql_sdl_text.specs.Views.{layout_view}
use Rattle.gql_sdl_text.proofs.Printing.{join_by_map}
use Rattle.gql_sdl_text.proofs.arguments.push_described_arguments.Goals as goal

pub returns : goal.returns
returns c =
    let layout = layout_view c.args.layout.now in
    let list = join_by (λ v. described_argument_text layout (viewed_input_value (input_value_of v.now))) (codes ",") c.args.values.now in
    c.in_ok-push_enclosed.ensures
    ∙ ap (λ (indent : Text). string_bytes c.args.out.now ++ (codes "(" ++ (list ++ (codes "\n" ++ (indent ++ codes ")"))))) c.as_str-indent.ensures.value
    ∙ ap (λ (t : Text). string_bytes c.args.out.now ++ (codes "(" ++ (t ++ (codes "\n" ++ (layout.indent ++ codes ")"))))) (sym (join_by_map (described_argument_text layout) (λ v. viewed_input_value (input_value_of v.now)) (codes ",") c.args.values.now))
