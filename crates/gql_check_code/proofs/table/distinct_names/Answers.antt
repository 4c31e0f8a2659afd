use Rattle.gql_dynamic.specs.SchemaViews.{type_parts}
use Rattle.gql_check_code.specs.Definitions.{definition}
use Rattle.gql_check_code.proofs.Entries.{distinct}
use Rattle.gql_check_code.proofs.table.distinct_names.Goals as goal

pub returns : goal.returns
returns g c = distinct definition type_parts c.args.types.now.types.entries c.get_index_of.ensures.unique
