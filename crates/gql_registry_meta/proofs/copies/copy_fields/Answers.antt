use Rattle.gql_registry_meta.proofs.Alike.{entries_alike}
use Rattle.gql_registry_meta.specs.Views.{field_of}
use Rattle.gql_registry_meta.proofs.copies.copy_fields.Goals as goal

pub returns : goal.returns
returns c = entries_alike field_of _ _ c.in_ok-clone.ensures.cases
