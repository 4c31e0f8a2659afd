use Rattle.std.proofs.Common.{◌++◌, ◌∙◌, ap, sym, true, false, rules, string_bytes}
use Rattle.gql_registry_meta.specs.Parts.{Text}
use Rattle.gql_registry_meta.specs.Views.{input_value_of}
use Rattle.gql_sdl_view.specs.View.{viewed_input_value}
use Rattle.gql_sdl_text.specs.Views.{layout_view}
use Rattle.gql_sdl_text.proofs.Printing.{arguments_some}
use Rattle.gql_sdl_text.proofs.arguments.push_listed_arguments.Goals as goal

pub returns-then-are_described : goal.returns-then-are_described
returns-then-are_described c = c.in_ok-push_described_arguments.ensures
    ∙ ap (λ (t : Text). string_bytes c.args.out.now ++ t) (sym (arguments_some (layout_view c.args.layout.now) (λ v. viewed_input_value (input_value_of v.now)) c.args.values.now (search rules) true (sym c.are_described.ensures ∙ c.if-are_described.true)))

pub returns : goal.returns
returns c = c.in_ok-push_plain_arguments.ensures
    ∙ ap (λ (t : Text). string_bytes c.args.out.now ++ t) (sym (arguments_some (layout_view c.args.layout.now) (λ v. viewed_input_value (input_value_of v.now)) c.args.values.now (search rules) false (sym c.are_described.ensures ∙ c.if-are_described.false)))
