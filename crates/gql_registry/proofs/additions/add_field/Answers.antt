use Rattle.std.proofs.Common.{ap, ◌∙◌, ◌≡◌}
use Rattle.std.specs.Str.{bytes_eq}
use Rattle.indexmap.specs.IndexMap.{insert_entry}
use Rattle.gql_registry_meta.specs.Views.{field_of, entries_of}
use Rattle.gql_registry.specs.Additions.{with_field}
use Rattle.gql_registry_meta.proofs.Entries.{entries_with_insertion}
use Rattle.gql_registry.proofs.additions.add_field.Goals as goal

pub returns-in_ok-insert-in-Object-clause-field : goal.returns-in_ok-insert-in-Object-clause-field
returns-in_ok-insert-in-Object-clause-field g c =
    let fields = c.in-Object.fields.entries in
    let e : entries_of field_of c.insert.new.self.entries ≡ with_field (entries_of field_of fields) (field_of c.args.field) =
    ap (entries_of field_of) c.in_ok-insert-in-Object.ensures.entries ∙ entries_with_insertion field_of fields c.args.name c.args.field
    ∙ ap (λ t. insert_entry bytes_eq (entries_of field_of fields) t (field_of c.args.field)) c.requires in
    rw (c.in-Object.is, e)
