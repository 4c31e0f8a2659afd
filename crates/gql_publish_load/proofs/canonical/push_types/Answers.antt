use Rattle.std.proofs.Common.{map, sym, ap, ◌∙◌, drop, ◌+◌}
use Rattle.gql_dynamic.specs.SchemaTypes.{interfaces, type_meta}
use Rattle.gql_dynamic.specs.SchemaViews.{type_parts}
use Rattle.gql_sdl.specs.Writing.{Written, with_type, written_by}
use Rattle.gql_publish_load.specs.Canonical.{with_types}
use Rattle.gql_publish_load.proofs.CanonicalTexts.{next_written, all_written}
use Rattle.gql_publish_load.proofs.canonical.push_types.Goals as goal

pub loop-ty-preserved : goal.loop-ty-preserved
loop-ty-preserved g c = λ subscription.
    let types = c.args.types.now in
    let i = c.loop-ty.ty-index in
    ap (λ (w : Written). with_types subscription w (map (λ ty. type_parts ty.now) (drop (i + 1) types)))
    (c.in_ok-push_built.ensures subscription ∙ ap (λ ty. with_type subscription (written_by c.loop-ty.writer) (interfaces (type_parts ty.now)) (type_meta (type_parts ty.now))) c.ty-item.is)
    ∙ sym (next_written (λ ty. type_parts ty.now) subscription (written_by c.loop-ty.writer) types i c.ty-item.result c.loop-ty-test.true)
    ∙ c.loop-ty.invariant subscription

pub returns : goal.returns
returns g c = λ subscription.
    all_written (λ ty. type_parts ty.now) subscription (written_by c.loop-ty.writer) c.args.types.now c.loop-ty.ty-index c.loop-ty-test.false
    ∙ c.loop-ty.invariant subscription
