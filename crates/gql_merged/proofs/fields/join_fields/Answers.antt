use Rattle.std.proofs.Common.{ap, ◌∙◌}
use Rattle.gql_registry_meta.specs.Views.{field_of, entries_of}
use Rattle.gql_merged.specs.Merged.{joined}
use Rattle.gql_merged.proofs.Joining.{entries_joined}
use Rattle.gql_merged.proofs.fields.join_fields.Goals as goal

pub returns : goal.returns
returns c =
    entries_joined field_of c.reserve.new.self.entries c.args.others.now.entries _ c.in_ok-append.ensures.entries c.reserve.ensures.unique c.len.ensures.unique
    ∙ ap (λ es. joined (entries_of field_of es) (entries_of field_of c.args.others.now.entries)) c.reserve.ensures.entries
