use Rattle.gql_publish_order.proofs.Laws.{read_back, tells_view}
use Rattle.gql_publish_order.proofs.canonical_laws.Goals as goal

pub returns-clause-read_back : goal.returns-clause-read_back
returns-clause-read_back c = read_back c.order_laws.ensures.sorting

pub returns-clause-one_view : goal.returns-clause-one_view
returns-clause-one_view c = tells_view
