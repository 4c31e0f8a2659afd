use Rattle.std.proofs.Common.{rules, map, ap, ◌∙◌}
use Rattle.gql_registry_meta.specs.Parts.{is_among}
use Rattle.gql_registry_meta.specs.Views.{text_of}
use Rattle.gql_registry_closures.proofs.Kept.{set_more}
use Rattle.gql_registry_closures.proofs.naming.set_of.Goals as goal

pub loop-text-preserved : goal.loop-text-preserved
loop-text-preserved c other =
    let key = c.in_ok-from_str.field-0 in
    ap (λ ks. is_among other (map text_of ks)) c.in_ok-insert.ensures.keys
    ∙ set_more other c.loop-text.set.keys c.args.texts.now c.loop-text.text-index _ key (search rules) c.in_ok-from_str.ensures.ok (c.loop-text.invariant other)
