use Rattle.std.proofs.Common.{sym, ◌∙◌}
use Rattle.gql_dynamic.specs.SchemaViews.{type_parts}
use Rattle.gql_check_code.specs.Definitions.{definition}
use Rattle.gql_check_code.proofs.Entries.{place_by_text}
use Rattle.gql_check_code.proofs.table.number_needed.Goals as goal

pub returns : goal.returns
returns g c = rw (sym c.in_ok-name.ensures) (c.get_index_of.ensures.index ∙ place_by_text definition type_parts c.in_ok-name.name.now c.args.types.now.types.entries)
