use Rattle.std.proofs.Common.{arith}
use Rattle.gql_text.specs.Owners.{input_faults}
use Rattle.gql_text.proofs.First.{first_more}
use Rattle.gql_text.proofs.owner_members.check_each_input.Goals as goal

pub loop-input-preserved : goal.loop-input-preserved
loop-input-preserved c = grind (arith, first_more input_faults c.args.inputs.now c.loop-input.input-index c.input-item.result c.args.first.now)
