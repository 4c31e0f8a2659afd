use Rattle.std.proofs.Common.{arith, refl}
use Rattle.gql_text.proofs.First.{first_after_append, left_at}
use Rattle.gql_text.proofs.Names.{none_yet}
use Rattle.gql_text.proofs.owner_names.check_many.Goals as goal

pub loop-item-init : goal.loop-item-init
loop-item-init g c = rw (none_yet c.new-earlier.result c.new-earlier.ensures.empty) refl

pub loop-item-preserved : goal.loop-item-preserved
loop-item-preserved g c = grind (arith, first_after_append, left_at c.args.items.now c.loop-item.item-index c.item-item.result)
