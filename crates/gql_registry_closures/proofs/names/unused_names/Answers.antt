use Rattle.std.proofs.Common.{◌≡◌, ap, ◌∙◌}
use Rattle.std.specs.Map.{keys_of}
use Rattle.gql_registry_meta.specs.Views.{texts_of, texts_in}
use Rattle.gql_registry_closures.specs.Reached.{every_rule, Used}
use Rattle.gql_registry_closures.specs.Answers.{parts_of}
use Rattle.gql_registry_closures.specs.Walk.{left_of}
use Rattle.gql_registry_closures.proofs.Interfaces.{starts_reached}
use Rattle.gql_registry_closures.proofs.Kept.{leaves}
use Rattle.gql_registry_closures.proofs.names.unused_names.Goals as goal

pub returns : goal.returns
returns g c =
    let parts = parts_of c.args.types.now c.args.directives.now (texts_in c.args.roots.now) in
    let names = keys_of parts.types in
    let marks = c.in_ok-marks.marks.items in
    let tells = starts_reached every_rule parts c.in_ok-table.table c.in_ok-table.ensures.table c.in_ok-numbers.ensures.distinct marks c.in_ok-marks.ensures.reached in
    let left : texts_of c.in_ok-names.names ≡ left_of names marks names =
    c.in_ok-names.ensures ∙ ap (λ ms. left_of c.in_ok-numbers.numbers ms names) c.deref.ensures.value ∙ ap (λ ns. left_of ns marks names) c.in_ok-numbers.ensures.names in
    leaves names marks (Used parts) (texts_of c.in_ok-names.names) tells left
