use Rattle.std.proofs.Common.{ap, ◌∙◌}
use Rattle.std.specs.Option.{option_map}
use Rattle.gql_parts.specs.BuilderViews.{input_value_parts}
use Rattle.gql_check_code.specs.Definitions.{checked_input_of}
use Rattle.gql_check_code.proofs.Entries.{entries_at_text}
use Rattle.gql_check_code.proofs.names.input_named.Goals as goal

pub returns : goal.returns
returns c = ap (option_map (λ input. checked_input_of (input_value_parts input))) c.get.ensures.value ∙ entries_at_text checked_input_of input_value_parts c.args.name.now c.args.inputs.now.entries
