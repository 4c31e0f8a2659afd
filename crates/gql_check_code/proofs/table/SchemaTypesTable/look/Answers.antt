use Rattle.std.proofs.Common.{ap, ◌∙◌}
use Rattle.gql_text_values.specs.TypeRefs.{reference}
use Rattle.gql_check_rules.specs.InputCycles.{needed_by}
use Rattle.gql_check_code.specs.CheckedViews.{schema_of}
use Rattle.gql_check_code.specs.Cycles.{names, number}
use Rattle.gql_check_code.proofs.Entries.{look_at}
use Rattle.gql_check_code.proofs.table.SchemaTypesTable.look.Goals as goal

pub returns : goal.returns
returns g c =
    c.number_needed.ensures
    ∙ (ap (λ ty. number (names (schema_of c.args.self.now)) (needed_by (schema_of c.args.self.now) (reference ty))) c.ty.ensures
    ∙ look_at (schema_of c.args.self.now) c.args.node c.args.field c.in_ok-fields.fields.now.entries c.in_ok-input.field-0-0.now c.in_ok-input.input.now c.in_ok-fields.ensures c.in_ok-input.ensures.entry)
