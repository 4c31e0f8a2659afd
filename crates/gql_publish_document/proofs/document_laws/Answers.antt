use Rattle.gql_publish_document.proofs.Cleanness.{is_clean}
use Rattle.gql_publish_document.proofs.document_laws.Goals as goal

pub returns : goal.returns
returns c = is_clean
