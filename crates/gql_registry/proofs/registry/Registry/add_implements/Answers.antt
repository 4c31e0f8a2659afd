use Rattle.std.proofs.Common.{ap, ◌∙◌, ◌≡◌, ◌≢◌}
use Rattle.std.proofs.lemmas.Result.{on_ok_weaker}
use Rattle.gql_registry_meta.specs.Parts.{Text, at_text}
use Rattle.gql_registry_meta.specs.Views.{entries_of}
use Rattle.gql_registry.specs.Registry.{registry_of, names_of, implements_listed, with_name, with_implements}
use Rattle.gql_registry.proofs.Changes.{other-list}
use Rattle.gql_registry.proofs.registry.Registry.add_implements.Goals as goal

pub returns-clause-others : goal.returns-clause-others
returns-clause-others g c =
    let type = c.args.ty.now in
    let lists = (registry_of c.args.self.now).implements in
    on_ok_weaker c.add_to_list.result
    (λ (e : entries_of names_of c.add_to_list.new.lists.entries ≡ with_implements type lists c.args.interface.now) (other : Text) (ne : other ≢ type).
    ap (at_text other) e ∙ other-list type other lists (with_name (implements_listed type lists) c.args.interface.now) ne)
    c.add_to_list.ensures.lists
