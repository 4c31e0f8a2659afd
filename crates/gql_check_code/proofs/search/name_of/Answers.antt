use Rattle.std.proofs.Common.{Some, ap, ◌∙◌}
use Rattle.gql_dynamic.specs.SchemaViews.{type_parts}
use Rattle.gql_check_code.specs.Definitions.{definition}
use Rattle.gql_check_code.proofs.Entries.{name_there}
use Rattle.gql_check_code.proofs.search.name_of.Goals as goal

pub returns : goal.returns
returns g c = ap Some (c.as_str.ensures.value ∙ name_there definition type_parts c.args.types.now.types.entries c.args.node c.in_ok-name.name.now c.in_ok-name.field-0-1.now c.in_ok-name.ensures.entry)
