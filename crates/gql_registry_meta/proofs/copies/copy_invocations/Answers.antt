use Rattle.gql_registry_meta.proofs.Alike.{map_alike}
use Rattle.gql_registry_meta.specs.Views.{invocation_of}
use Rattle.gql_registry_meta.proofs.copies.copy_invocations.Goals as goal

pub returns : goal.returns
returns c = map_alike invocation_of _ _ c.in_ok-clone.ensures.cases.0
