use Rattle.std.proofs.Common.{◌++◌, ◌∙◌, ap, sym, string_bytes}
use Rattle.gql_registry_meta.specs.Parts.{Text}
use Rattle.gql_registry_meta.specs.Views.{field_of}
use Rattle.gql_sdl_view.specs.View.{viewed_field}
use Rattle.gql_sdl_view.specs.Spelling.{body_text, field_text}
use Rattle.gql_sdl_text.specs.Views.{layout_view, choice_view}
use Rattle.gql_sdl_text.proofs.Printing.{body_text_map}
use Rattle.gql_sdl_text.proofs.fields.push_fields.Goals as goal

pub returns : goal.returns
returns c = c.in_ok-push_body.ensures
    ∙ ap (λ vs. string_bytes c.args.out.now ++ body_text (λ v. field_text (layout_view c.args.layout.now) (viewed_field (choice_view c.args.choice) (field_of v.now))) vs) c.as_slice.ensures.value
    ∙ ap (λ (t : Text). string_bytes c.args.out.now ++ t) (sym (body_text_map (field_text (layout_view c.args.layout.now)) (λ v. viewed_field (choice_view c.args.choice) (field_of v.now)) c.in_ok-kept.kept.items))
    ∙ ap (λ vs. string_bytes c.args.out.now ++ body_text (field_text (layout_view c.args.layout.now)) vs) c.in_ok-kept.ensures
