use Rattle.gql_check_cycles.proofs.Among.{lists_set}
use Rattle.gql_check_cycles.proofs.order.store.Goals as goal

pub returns : goal.returns
returns c = lists_set c.args.edges.now.items c.args.a c.index_mut.result.now c.push.new.self c.args.b c.requires c.index_mut.ensures.value c.in_ok-push.ensures.items
