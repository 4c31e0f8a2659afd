use Rattle.std.proofs.Common.{◌≡◌, ◌++◌, ap, ◌∙◌, string_bytes}
use Rattle.std.specs.Map.{values_of}
use Rattle.gql_registry_meta.specs.Parts.{Text}
use Rattle.gql_registry.specs.Registry.{registry_of, types_of, directives_of}
use Rattle.gql_sdl_view.specs.Options.{layout_of}
use Rattle.gql_sdl_view.specs.View.{view_of}
use Rattle.gql_sdl_text.specs.Views.{layout_view}
use Rattle.gql_sdl.specs.Needs.{needs_of}
use Rattle.gql_sdl.specs.Registered.{shown_text}
use Rattle.gql_sdl.specs.Values.{options_of}
use Rattle.gql_sdl.proofs.Texts.{spelled_from, shown_types_text, needed_directives_text}
use Rattle.gql_sdl.proofs.printing.export_sdl.Goals as goal

pub returns : goal.returns
returns g c =
    let o = options_of c.args.options in
    let contents = registry_of c.args.registry.now in
    let layout = layout_view c.in_ok-layout.layout in
    let types = values_of (types_of c.args.registry.now) in
    let directives = values_of (directives_of c.args.registry.now) in
    let needs : c.of-needs.result ≡ needs_of types = c.of-needs.ensures ∙ ap (λ l. needs_of (values_of l)) c.types.ensures.types in
    spelled_from layout (layout_of o) (view_of o contents) _ _ _ _ _ _ _
    c.new-out.ensures.bytes
    (c.in_ok-push_shown_types.ensures ∙ ap (λ (t : Text). string_bytes c.new-out.result ++ t) (ap (λ choice. shown_text layout choice contents types) c.choice.ensures ∙ shown_types_text layout o contents))
    (c.in_ok-push_needed_directives.ensures types needs ∙ ap (λ (t : Text). string_bytes c.push_shown_types.new.out ++ t) (needed_directives_text layout types directives))
    c.in_ok-push_schema_block.ensures
    c.query_type.ensures c.mutation_type.ensures c.subscription_type.ensures c.in_ok-layout.ensures
