use Rattle.std.proofs.Common.{◌∙◌, ap, map, refl}
use Rattle.gql_registry_meta.specs.Views.{text_of, field_of}
use Rattle.gql_sdl_view.specs.View.{viewed_field, is_kept}
use Rattle.gql_sdl_text.specs.Views.{choice_view}
use Rattle.gql_sdl_text.proofs.Lendings.{kept_is}
use Rattle.gql_sdl_text.proofs.members.kept_fields.Goals as goal

pub returns : goal.returns
returns c =
    let choice = choice_view c.args.choice in
    ap (map (λ f. viewed_field choice (field_of f.now))) c.in_ok-arrange_fields.ensures
    ∙ kept_is field_of (viewed_field choice) (λ f. text_of f.name) (λ f. f.name) (λ f. refl) (is_kept choice) choice.sorted_fields c.in_ok-kept.kept.items c.args.fields.now.entries c.in_ok-kept.ensures
