use Rattle.gql_registry_meta.proofs.Printed.{prints_plainly}
use Rattle.gql_registry_meta.proofs.type_name.printed_levels.Goals as goal

pub returns : goal.returns
returns c = prints_plainly c.args.ty.now
