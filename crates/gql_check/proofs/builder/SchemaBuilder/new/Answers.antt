use Rattle.std.proofs.Common.{ap}
use Rattle.gql_check_code.specs.Definitions.{SchemaParts}
use Rattle.gql_check_code.specs.CheckedViews.{schema_parts}
use Rattle.gql_check.proofs.Keys.{no_names}
use Rattle.gql_check.proofs.builder.SchemaBuilder.new.Goals as goal

pub invariant_of-result-clause-different : goal.invariant_of-result-clause-different
invariant_of-result-clause-different g c = no_names (schema_parts c.in_ok-no_types.field-0) (ap (λ (parts : SchemaParts). parts.types) c.in_ok-no_types.ensures)
