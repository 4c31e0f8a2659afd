use Rattle.std.proofs.Common.{arith}
use Rattle.gql_text.specs.Owners.{value_faults}
use Rattle.gql_text.proofs.First.{first_more}
use Rattle.gql_text.proofs.owner_values.check_argument_values.Goals as goal

pub loop-argument-preserved : goal.loop-argument-preserved
loop-argument-preserved c = grind (arith, first_more (λ a. value_faults a.value) c.args.arguments.now c.loop-argument.argument-index c.argument-item.result c.args.first.now)
