use Rattle.gql_publish_sample.proofs.Laws.{are_valid}
use Rattle.gql_publish_sample.proofs.sample_laws.Goals as goal

pub returns : goal.returns
returns c = are_valid
