use Rattle.std.proofs.Common.{ap, ◌∙◌}
use Rattle.std.specs.BTreeMap.{insert_entry}
use Rattle.gql_registry_meta.specs.Parts.{text_cmp}
use Rattle.gql_registry_meta.specs.Views.{entries_of, meta_of}
use Rattle.gql_registry_meta.proofs.Entries.{entries_with_entry}
use Rattle.gql_registry.proofs.lists.put_named.Goals as goal

pub returns-in-Ok-clause-types : goal.returns-in-Ok-clause-types
returns-in-Ok-clause-types g c =
    let types = c.args.types.now.entries in
    ap (entries_of meta_of) c.in-Ok.ensures.entries ∙ entries_with_entry meta_of types c.args.name c.args.ty
    ∙ ap (λ t. insert_entry text_cmp (entries_of meta_of types) t (meta_of c.args.ty)) c.requires
