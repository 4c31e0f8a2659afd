use Rattle.std.proofs.Common.{ap, ◌∙◌, option_and_then}
use Rattle.std.specs.Option.{option_map}
use Rattle.gql_registry_meta.specs.Views.{field_of}
use Rattle.gql_registry_meta.specs.Parts.{at_text}
use Rattle.gql_registry_meta.proofs.Entries.{entries_at_text}
use Rattle.gql_registry_meta.proofs.meta_type.MetaType.field_by_name.Goals as goal

pub returns : goal.returns
returns g c =
    ap (option_map field_of) c.get.ensures.value ∙ entries_at_text field_of c.args.name.now c.in_ok-fields.field-0.now.entries
    ∙ ap (option_and_then (at_text c.args.name.now)) c.in_ok-fields.ensures
