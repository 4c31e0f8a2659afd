use Rattle.gql_check_rules.proofs.Laws.{order_independent, sorting_independent}
use Rattle.gql_check_rules.proofs.order_laws.Goals as goal

pub returns-clause-order : goal.returns-clause-order
returns-clause-order c = order_independent

pub returns-clause-sorting : goal.returns-clause-sorting
returns-clause-sorting c = sorting_independent
