-- The rows of the table are the steps of the definition, which is found by computing both.
use Rattle.gql_registry.specs.Tables.{directive_at}
use Rattle.gql_registry.proofs.registry.Registry.add_system_types.Goals as goal

pub returns-clause-made : goal.returns-clause-made
unfolding directive_at
returns-clause-made g c = c.add_all.ensures.made

pub returns-clause-err : goal.returns-clause-err
unfolding directive_at
returns-clause-err g c = c.add_all.ensures.err
