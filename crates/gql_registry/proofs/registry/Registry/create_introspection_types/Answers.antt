-- The rows of the table are the steps of the definition, which is found by computing both.
use Rattle.gql_registry.specs.Tables.{type_at, query_field_at}
use Rattle.gql_registry.proofs.registry.Registry.create_introspection_types.Goals as goal

pub returns-clause-made : goal.returns-clause-made
unfolding type_at query_field_at
returns-clause-made g c = c.add_all.ensures.made

pub returns-clause-err : goal.returns-clause-err
unfolding type_at query_field_at
returns-clause-err g c = c.add_all.ensures.err
