use Rattle.std.proofs.Common.{arith}
use Rattle.gql_text.specs.Owners.{use_faults}
use Rattle.gql_text.proofs.First.{first_more}
use Rattle.gql_text.proofs.owner_uses.check_each_use.Goals as goal

pub loop-one-preserved : goal.loop-one-preserved
loop-one-preserved c = grind (arith, first_more (use_faults c.args.owner) c.args.uses.now c.loop-one.one-index c.one-item.result c.args.first.now)
