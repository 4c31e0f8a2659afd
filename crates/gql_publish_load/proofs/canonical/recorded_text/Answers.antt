use Rattle.std.proofs.Common.{◌≡◌, map, sym, ap, ◌∙◌}
use Rattle.std.specs.Option.{option_copied}
use Rattle.gql_text_syntax.specs.declared.operation.OperationType.TheVariants.{Subscription}
use Rattle.gql_text.specs.Roots.{root_of}
use Rattle.gql_registry_meta.specs.Views.{directive_of}
use Rattle.gql_dynamic.specs.SchemaTypes.{TypeParts}
use Rattle.gql_dynamic.specs.SchemaViews.{type_parts}
use Rattle.gql_check.specs.Recorded.{Recorded}
use Rattle.gql_check.specs.Recordings.{recorded_of}
use Rattle.gql_sdl.specs.Needs.{needs_of}
use Rattle.gql_sdl.specs.Values.{options_of}
use Rattle.gql_sdl.specs.Writing.{Written, written_by}
use Rattle.gql_publish_document.specs.Document.{document_recorded, ordered_metas, ordered_types}
use Rattle.gql_publish_load.proofs.CanonicalTexts.{types_done, text_is, ordered_so, typed}
use Rattle.gql_publish_load.proofs.canonical.recorded_text.Goals as goal

pub returns : goal.returns
returns g c = λ d clean kept recorded.
    let o = options_of c.args.options in
    let builder = c.args.builder.now in
    let listed : map (λ ty. type_parts ty.now) c.as_slice.result.now ≡ ordered_types d =
    ap (map (λ ty. type_parts ty.now)) (c.as_slice.ensures.value ∙ c.in_ok-arrange.ensures)
    ∙ ordered_so d c.in_ok-ordered.ordered.items c.types.result.now.entries c.in_ok-ordered.ensures (c.types.ensures ∙ ap (λ (r : Recorded). r.schema.types) recorded) in
    let types : written_by c.push_types.new.writer ≡ typed d clean kept o =
    types_done d clean kept o (written_by c.in_ok-writer.writer) (written_by c.push_types.new.writer) (map (λ ty. type_parts ty.now) c.as_slice.result.now)
    c.in_ok-writer.ensures listed (c.in_ok-push_types.ensures (root_of Subscription d)) in
    c.in_ok-text.ensures
    ∙ text_is d clean kept o _ _ (map directive_of c.as_slice-2.result.now) _ _ _ types
    (ap (map directive_of) c.as_slice-2.ensures.value ∙ ap (λ (r : Recorded). r.directives) recorded)
    (c.in_ok-push_directives.ensures (ordered_metas d) (ap (λ (w : Written). w.needs) types))
    (c.query.ensures ∙ ap (λ (r : Recorded). r.schema.query) recorded)
    (c.mutation.ensures ∙ ap (λ (r : Recorded). r.schema.mutation) recorded)
    (c.subscription.ensures ∙ ap (λ (r : Recorded). r.schema.subscription) recorded)
