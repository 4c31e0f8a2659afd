use Rattle.std.proofs.Common.{ap, ◌∙◌}
use Rattle.std.specs.Option.{option_map}
use Rattle.gql_dynamic.specs.SchemaViews.{type_parts}
use Rattle.gql_check_rules.specs.InputCycles.{input_fields_of}
use Rattle.gql_check_code.specs.Definitions.{definition}
use Rattle.gql_check_code.proofs.Entries.{entry_at}
use Rattle.gql_check_code.proofs.table.fields_at.Goals as goal

pub returns-in-None : goal.returns-in-None
returns-in-None g c =
    ap (λ found. input_fields_of (option_map (λ entry. definition (type_parts entry.1)) found)) c.in-None.ensures.entry
    ∙ ap input_fields_of (entry_at definition type_parts c.args.types.now.types.entries c.args.node)

pub returns-in-Some : goal.returns-in-Some
returns-in-Some g c =
    c.input_fields.ensures
    ∙ (ap (λ found. input_fields_of (option_map (λ entry. definition (type_parts entry.1)) found)) c.in-Some.ensures.entry
    ∙ ap input_fields_of (entry_at definition type_parts c.args.types.now.types.entries c.args.node))
