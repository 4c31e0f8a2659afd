use Rattle.std.proofs.Common.{sym, subst}
use Rattle.gql_check_code.specs.CheckedViews.{schema_parts}
use Rattle.gql_check.specs.Implementers.{KnowsImplementers}
use Rattle.gql_check.specs.RecordedViews.{recorded_as}
use Rattle.gql_check.proofs.Implementers.{knows_implementers}
use Rattle.gql_check.proofs.schema.Schema.into_registry.Goals as goal

pub returns-clause-implementers : goal.returns-clause-implementers
returns-clause-implementers g c =
    let schema = c.args.self in
    subst (KnowsImplementers (schema_parts schema.types)) (sym schema.made)
    (knows_implementers (recorded_as schema.types schema.directives schema.is_disabled) schema.own schema.different)
