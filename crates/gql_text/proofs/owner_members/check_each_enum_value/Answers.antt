use Rattle.std.proofs.Common.{arith}
use Rattle.gql_text.specs.Owners.{enum_value_faults}
use Rattle.gql_text.proofs.First.{first_more}
use Rattle.gql_text.proofs.owner_members.check_each_enum_value.Goals as goal

pub loop-value-preserved : goal.loop-value-preserved
loop-value-preserved c = grind (arith, first_more enum_value_faults c.args.values.now c.loop-value.value-index c.value-item.result c.args.first.now)
