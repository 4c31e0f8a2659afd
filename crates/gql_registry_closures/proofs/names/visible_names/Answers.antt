use Rattle.std.proofs.Common.{◌∙◌, ap, filter}
use Rattle.std.specs.Map.{keys_of}
use Rattle.gql_registry_meta.specs.Parts.{is_among}
use Rattle.gql_registry_meta.specs.Views.{texts_in}
use Rattle.gql_registry_closures.specs.Reached.{Visible}
use Rattle.gql_registry_closures.specs.Answers.{parts_of, set_names}
use Rattle.gql_registry_closures.specs.Walk.{steps_of, targets, Among, is_name_kept}
use Rattle.gql_registry_closures.proofs.Interfaces.{starts_reached, all_joined}
use Rattle.gql_registry_closures.proofs.Kept.{holds_exactly}
use Rattle.gql_registry_closures.proofs.Walks.{reached_closed}
use Rattle.gql_registry_closures.proofs.Whole.{rules_count}
use Rattle.gql_registry_closures.proofs.names.visible_names.Goals as goal

pub join_all-requires-clause-closed : goal.join_all-requires-clause-closed
join_all-requires-clause-closed g c =
    let holds = g.C.Context.rules c.args.ctx.now in
    let table = c.in_ok-table.table in
    reached_closed (steps_of holds table) (λ x. Among x (targets holds table.rules.items table.starts.items)) c.in_ok-marks.marks.items c.in_ok-marks.ensures.reached

pub returns : goal.returns
returns g c =
    let holds = g.C.Context.rules c.args.ctx.now in
    let parts = parts_of c.args.types.now c.args.directives.now (texts_in c.args.roots.now) in
    let names = keys_of parts.types in
    let table = c.in_ok-table.table in
    let t = c.in_ok-table.ensures.table in
    let distinct = c.in_ok-numbers.ensures.distinct in
    let old = c.in_ok-marks.marks.items in
    let new = c.join_all.new.marks.items in
    let reached = starts_reached holds parts table t distinct old c.in_ok-marks.ensures.reached in
    let tells = all_joined holds parts table t distinct old new (c.in_ok-marks.ensures.size ∙ rules_count parts table t) reached c.in_ok-join_all.ensures.joined in
    holds_exactly names new (Visible holds parts) (set_names c.in_ok-names.names) tells (λ name.
    c.in_ok-names.ensures name ∙ ap (λ ms. is_among name (filter (is_name_kept c.in_ok-numbers.numbers ms) names)) c.deref.ensures.value
    ∙ ap (λ ns. is_among name (filter (is_name_kept ns new) names)) c.in_ok-numbers.ensures.names)
