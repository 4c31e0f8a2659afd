use Rattle.gql_check_rules.proofs.Reaching.{reaches-decides}
use Rattle.gql_check_rules.proofs.Laws.{kept_where_finite, makes_finite}
use Rattle.gql_check_rules.proofs.cycle_laws.Goals as goal

pub returns-clause-reaching : goal.returns-clause-reaching
returns-clause-reaching c = reaches-decides

pub returns-clause-finite : goal.returns-clause-finite
returns-clause-finite c = kept_where_finite

pub returns-clause-sound : goal.returns-clause-sound
returns-clause-sound c = makes_finite
