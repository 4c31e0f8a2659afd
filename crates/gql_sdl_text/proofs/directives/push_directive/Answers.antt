use Rattle.std.proofs.Common.{◌++◌, ◌∙◌, ap, codes, string_bytes, append_assoc}
use Rattle.std.specs.List.{join_by}
use Rattle.std.specs.Map.{values_of}
use Rattle.gql_registry_meta.specs.Parts.{Text}
use Rattle.gql_registry_meta.specs.Locations.{location_text}
use Rattle.gql_registry_meta.specs.Views.{directive_of}
use Rattle.gql_sdl_view.specs.Ordered.{changed}
use Rattle.gql_sdl_view.specs.View.{bare_argument}
use Rattle.gql_sdl_view.specs.Spelling.{head_text, bare_arguments_text, repeatable_text}
use Rattle.gql_sdl_text.specs.Views.{layout_view}
use Rattle.gql_sdl_text.proofs.directives.push_directive.Goals as goal

pub returns : goal.returns
returns c =
    let d = directive_of c.args.directive.now in
    let old : Text = string_bytes c.args.out.now in
    let head : Text = head_text (layout_view c.args.layout.now) d.description (codes "directive @") d.name in
    let arguments : Text = bare_arguments_text (values_of (changed bare_argument d.args)) in
    let end : Text = repeatable_text d.is_repeatable ++ (codes " on " ++ join_by location_text (codes " | ") d.locations) in
    c.in_ok-push_directive_end.ensures
    ∙ ap (λ ls. string_bytes c.push_bare_arguments.new.out ++ (repeatable_text d.is_repeatable ++ (codes " on " ++ join_by location_text (codes " | ") ls))) c.as_slice.ensures.value
    ∙ ap (λ (t : Text). t ++ end) (c.in_ok-push_bare_arguments.ensures
    ∙ ap (λ (t : Text). t ++ arguments) (c.in_ok-push_head.ensures
    ∙ ap (λ name. old ++ head_text (layout_view c.args.layout.now) d.description (codes "directive @") name) c.as_str-name.ensures.value))
    ∙ append_assoc (old ++ head) arguments end
    ∙ append_assoc old head (arguments ++ end)
