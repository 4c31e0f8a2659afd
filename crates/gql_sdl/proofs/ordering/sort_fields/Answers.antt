use Rattle.std.proofs.Common.{rules, refl}
use Rattle.std.proofs.lemmas.List.Sorted.{answers_always}
use Rattle.gql_registry_meta.specs.Parts.{Field}
use Rattle.gql_registry_meta.specs.Views.{field_of}
use Rattle.gql_registry_meta.specs.declared.field.MetaField.{MetaField}
use Rattle.gql_sdl.proofs.SortedEntries.{earlier-order, sorted_entries}
use Rattle.gql_sdl.proofs.ordering.sort_fields.Goals as goal

pub returns : goal.returns
returns c =
    let name = λ (v : MetaField). v.name in
    let part_name = λ (v : Field). v.name in
    let order = earlier-order field_of name part_name (λ a. refl) in
    sorted_entries field_of name part_name (λ a. refl) c.args.fields.now.entries c.sort_by.new.self.entries
    (c.in_ok-sort_by.ensures.sorted _ order (answers_always _ _ _ (λ q a r p k. search rules)))
    (c.in_ok-sort_by.ensures.stable _ order (answers_always _ _ _ (λ q a r p k. search rules)))
