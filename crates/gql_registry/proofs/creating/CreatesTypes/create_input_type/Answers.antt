use Rattle.gql_registry.proofs.Making.{stands_if_created, gone_after}
use Rattle.gql_registry.proofs.creating.CreatesTypes.create_input_type.Goals as goal

pub returns-clause-stands : goal.returns-clause-stands
returns-clause-stands g c = stands_if_created _ c.args.name.now c.args.kind _ _ c.create_type.result c.create_type.ensures

pub returns-clause-gone : goal.returns-clause-gone
returns-clause-gone g c = gone_after _ c.args.name.now c.args.kind _ _ c.create_type.result c.create_type.ensures
