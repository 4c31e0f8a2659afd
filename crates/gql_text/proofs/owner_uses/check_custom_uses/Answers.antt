use Rattle.std.proofs.Common.{arith}
use Rattle.gql_text.specs.Owners.{custom_use_faults}
use Rattle.gql_text.proofs.First.{first_more}
use Rattle.gql_text.proofs.owner_uses.check_custom_uses.Goals as goal

pub loop-one-preserved : goal.loop-one-preserved
loop-one-preserved c = grind (arith, first_more custom_use_faults c.args.uses.now c.loop-one.one-index c.one-item.result c.args.first.now)
