use Rattle.gql_publish_document.proofs.OneVerdict.{one_verdict}
use Rattle.gql_publish_document.proofs.verdict_laws.Goals as goal

pub returns : goal.returns
returns c = one_verdict
