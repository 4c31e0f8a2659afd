use Rattle.std.proofs.Common.{arith}
use Rattle.gql_text.specs.Owners.{subscription_field_faults}
use Rattle.gql_text.proofs.First.{first_more}
use Rattle.gql_text.proofs.owner_types.check_subscription_fields.Goals as goal

pub loop-field-preserved : goal.loop-field-preserved
loop-field-preserved c = grind (arith, first_more subscription_field_faults c.args.fields.now c.loop-field.field-index c.field-item.result c.args.first.now)
