-- What the builder of a schema has recorded, and what a schema was built of.
use Rattle.gql_check.specs.Recorded.{Recorded}
use Rattle.gql_check.specs.RecordedViews.{recorded_as}
use Rattle.gql_check.specs.declared.builder.SchemaBuilder.{SchemaBuilder}
use Rattle.gql_check.specs.declared.schema.Schema.{Schema}

-- what a builder has recorded
abbrev pub recorded_of : {x g : _} → SchemaBuilder x g → Recorded
recorded_of builder = recorded_as builder.types builder.directives builder.is_disabled

-- what a schema was built of
abbrev pub recorded_in : {x g : _} → Schema x g → Recorded
recorded_in schema = recorded_as schema.types schema.directives schema.is_disabled
