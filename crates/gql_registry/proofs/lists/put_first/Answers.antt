use Rattle.std.proofs.Common.{ap, ◌∙◌, ◌≡◌, sym, None}
use Rattle.std.specs.BTreeMap.{insert_entry}
use Rattle.std.specs.Map.{remove_entry}
use Rattle.std.specs.Str.{bytes_eq}
use Rattle.gql_registry_meta.specs.Parts.{text_cmp, at_text, name_of}
use Rattle.gql_registry_meta.specs.Views.{text_of, entries_of, meta_of}
use Rattle.gql_registry.specs.Registry.{names_of}
use Rattle.gql_registry_meta.proofs.Entries.{entries_with_entry, entries_without}
use Rattle.gql_registry.proofs.Changes.{with_list-none, remove_entry-insert}
use Rattle.gql_registry.proofs.lists.put_first.Goals as goal

pub returns-clause-lists : goal.returns-clause-lists
returns-clause-lists g c =
    let lists = c.args.lists.now.entries in
    let type = name_of (meta_of c.args.ty) in
    let none : at_text type (entries_of names_of lists) ≡ None = ap (λ t. at_text t (entries_of names_of lists)) (sym c.requires.key) ∙ c.requires.none in
    ap (entries_of names_of) c.in_ok-insert.ensures.entries ∙ entries_with_entry names_of lists c.args.key c.args.names
    ∙ ap (λ t. insert_entry text_cmp (entries_of names_of lists) t (names_of c.args.names)) c.requires.key
    ∙ sym (with_list-none type (entries_of names_of lists) (names_of c.args.names) none)

-- the list that was put first is taken out again
pub returns-in-Err-clause-lists_stay : goal.returns-in-Err-clause-lists_stay
returns-in-Err-clause-lists_stay g c =
    let lists = c.args.lists.now.entries in
    let given = c.as_str.result.now in
    let same : given ≡ text_of c.args.key = c.as_str.ensures.value ∙ c.in-Err.ensures.back ∙ sym c.requires.key in
    ap (entries_of names_of) c.remove.ensures.entries ∙ entries_without names_of given c.insert.new.self.entries
    ∙ ap (λ es. remove_entry (bytes_eq given) (entries_of names_of es)) c.in_ok-insert.ensures.entries
    ∙ ap (remove_entry (bytes_eq given)) (entries_with_entry names_of lists c.args.key c.args.names)
    ∙ ap (λ t. remove_entry (bytes_eq t) (insert_entry text_cmp (entries_of names_of lists) (text_of c.args.key) (names_of c.args.names))) same
    ∙ remove_entry-insert (text_of c.args.key) (entries_of names_of lists) (names_of c.args.names) c.requires.none
