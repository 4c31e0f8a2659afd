use Rattle.std.proofs.Common.{ap, ◌∙◌}
use Rattle.std.specs.Option.{option_map}
use Rattle.gql_parts.specs.BuilderViews.{field_parts}
use Rattle.gql_check_code.specs.Definitions.{checked_field_of}
use Rattle.gql_check_code.proofs.Entries.{entries_at_text}
use Rattle.gql_check_code.proofs.names.field_named.Goals as goal

pub returns : goal.returns
returns g c = ap (option_map (λ field. checked_field_of (field_parts field))) c.get.ensures.value ∙ entries_at_text checked_field_of field_parts c.args.name.now c.args.fields.now.entries
