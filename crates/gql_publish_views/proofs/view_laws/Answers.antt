use Rattle.gql_publish_views.proofs.Views.{view_stands}
use Rattle.gql_publish_views.proofs.view_laws.Goals as goal

pub returns : goal.returns
returns c = record { view_stands = view_stands }
