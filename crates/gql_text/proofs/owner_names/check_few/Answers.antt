use Rattle.gql_text.proofs.Names.{names_left}
use Rattle.gql_text.proofs.owner_names.check_few.Goals as goal

pub loop-index-preserved : goal.loop-index-preserved
loop-index-preserved g c = names_left g.T.Keyed.key c.args.items.now c.loop-index.index c.index-items-index.result c.loop-index.first c.check_item.new.first _ c.loop-index-test.true c.index-items-index.is c.in_ok-check_item.ensures c.loop-index.invariant
