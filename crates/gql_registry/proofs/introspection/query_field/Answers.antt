-- What is written is what the definitions say, which is found by computing both.
use Rattle.gql_registry.specs.Introspection.{schema_field, type_field}
use Rattle.gql_registry.specs.Tables.{query_field_at}
use Rattle.gql_registry.proofs.introspection.query_field.Goals as goal

pub returns-in-Schema : goal.returns-in-Schema
unfolding query_field_at schema_field
returns-in-Schema c = rw c.in-Schema.is c.described_field.ensures

pub returns-in-Type : goal.returns-in-Type
unfolding query_field_at type_field
returns-in-Type c = rw c.in-Type.is c.described_field-in-Type.ensures
