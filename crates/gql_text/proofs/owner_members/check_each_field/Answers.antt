use Rattle.std.proofs.Common.{arith}
use Rattle.gql_text.specs.Owners.{field_faults}
use Rattle.gql_text.proofs.First.{first_more}
use Rattle.gql_text.proofs.owner_members.check_each_field.Goals as goal

pub loop-field-preserved : goal.loop-field-preserved
loop-field-preserved c = grind (arith, first_more field_faults c.args.fields.now c.loop-field.field-index c.field-item.result c.args.first.now)
