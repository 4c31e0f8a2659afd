use Rattle.std.proofs.Common.{arith}
use Rattle.gql_text.proofs.First.{first_after_append, left_at}
use Rattle.gql_text.proofs.owner_roots.check_seconds.Goals as goal

pub loop-definition-preserved : goal.loop-definition-preserved
loop-definition-preserved c = grind (arith, first_after_append, left_at c.args.definitions.now c.loop-definition.definition-index c.definition-item.result)
