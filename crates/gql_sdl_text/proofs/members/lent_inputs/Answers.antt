use Rattle.std.proofs.Common.{◌∙◌, ap, map, refl}
use Rattle.gql_registry_meta.specs.Views.{text_of, input_value_of}
use Rattle.gql_sdl_view.specs.View.{viewed_input_value}
use Rattle.gql_sdl_text.proofs.Lendings.{lent_is}
use Rattle.gql_sdl_text.proofs.members.lent_inputs.Goals as goal

pub returns : goal.returns
returns c =
    ap (map (λ v. viewed_input_value (input_value_of v.now))) c.in_ok-arrange_inputs.ensures
    ∙ lent_is input_value_of viewed_input_value (λ v. text_of v.name) (λ v. v.name) (λ v. refl) c.args.sorted c.in_ok-lent.lent.items c.args.inputs.now.entries c.in_ok-lent.ensures
