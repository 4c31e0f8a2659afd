use Rattle.std.proofs.Common.{ap, ap₂, map, ◌∙◌, ◌≡◌, sym, [], ◌∷◌}
use Rattle.std.specs.BTreeMap.{insert_entry}
use Rattle.gql_registry_meta.specs.Parts.{text_cmp}
use Rattle.gql_registry_meta.specs.Views.{text_of, entries_of}
use Rattle.gql_registry.specs.Registry.{names_of, with_name}
use Rattle.gql_registry_meta.proofs.Entries.{entries_with_entry}
use Rattle.gql_registry.proofs.Changes.{begun_list, put_once, with_list-none}
use Rattle.gql_registry.proofs.lists.begin_list.Goals as goal

pub returns-clause-lists : goal.returns-clause-lists
returns-clause-lists c =
    let lists = entries_of names_of c.args.lists.now.entries in
    let i = text_of c.args.interface in
    let names : names_of c.add_name.new.names ≡ i ∷ [] = c.in_ok-add_name.ensures.names ∙ ap (λ ks. with_name ks i) (ap (λ ks. map text_of ks) c.new-names.ensures.empty) in
    ap (entries_of names_of) c.in_ok-insert.ensures.entries
    ∙ entries_with_entry names_of c.args.lists.now.entries c.in_ok-key.key c.add_name.new.names
    ∙ ap₂ (λ t ks. insert_entry text_cmp lists t ks) c.in_ok-key.ensures.ok names
    ∙ begun_list c.args.ty.now lists i c.requires

pub returns-clause-once : goal.returns-clause-once
returns-clause-once c =
    let lists = entries_of names_of c.args.lists.now.entries in
    let names = names_of c.add_name.new.names in
    put_once c.args.ty.now lists (entries_of names_of c.insert.new.self.entries) names (text_of c.args.interface)
    (ap (entries_of names_of) c.in_ok-insert.ensures.entries
    ∙ entries_with_entry names_of c.args.lists.now.entries c.in_ok-key.key c.add_name.new.names
    ∙ ap (λ t. insert_entry text_cmp lists t names) c.in_ok-key.ensures.ok
    ∙ sym (with_list-none c.args.ty.now lists names c.requires))
    c.in_ok-add_name.ensures.once
