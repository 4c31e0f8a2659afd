use Rattle.gql_registry_meta.proofs.Alike.{entries_alike}
use Rattle.gql_registry_meta.specs.Views.{input_value_of}
use Rattle.gql_registry_meta.proofs.copies.copy_input_values.Goals as goal

pub returns : goal.returns
returns c = entries_alike input_value_of _ _ c.in_ok-clone.ensures.cases
