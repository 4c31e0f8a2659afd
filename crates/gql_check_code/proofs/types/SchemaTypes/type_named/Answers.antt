use Rattle.std.proofs.Common.{ap, ◌∙◌}
use Rattle.std.specs.Option.{option_map}
use Rattle.gql_dynamic.specs.SchemaViews.{type_parts}
use Rattle.gql_check_code.specs.Definitions.{definition}
use Rattle.gql_check_code.specs.CheckedViews.{definition_of}
use Rattle.gql_check_code.proofs.Entries.{entries_at_text}
use Rattle.gql_check_code.proofs.types.SchemaTypes.type_named.Goals as goal

pub returns : goal.returns
returns g c = ap (option_map definition_of) c.get.ensures.value ∙ entries_at_text definition type_parts c.args.name.now c.args.self.now.types.entries
