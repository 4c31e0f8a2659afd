use Rattle.std.proofs.Common.{ap, ◌∙◌, sym, refl}
use Rattle.std.specs.BTreeMap.{insert_entry}
use Rattle.gql_registry_meta.specs.Parts.{at_text, text_cmp}
use Rattle.gql_registry_meta.specs.Views.{text_of, entries_of, meta_of}
use Rattle.gql_registry.specs.Registry.{names_of, with_list}
use Rattle.gql_registry_meta.proofs.Entries.{written_back, missing_at, entries_with_entry}
use Rattle.gql_registry.proofs.Results.{on_err}
use Rattle.gql_registry.proofs.Changes.{written_list}
use Rattle.gql_registry.proofs.lists.put_both.Goals as goal

pub returns-in_err-insert-in-Some-clause-lists_stay : goal.returns-in_err-insert-in-Some-clause-lists_stay
returns-in_err-insert-in-Some-clause-lists_stay g c =
    let w = c.in-Some.place.now in
    on_err c.from_residual.result
    (written_back names_of c.as_str.result.now c.args.lists.now.entries (c.get_mut.follows.lender w).entries w w c.in-Some.ensures.value (c.get_mut.follows.holds w).0 refl)

pub put_first-requires-clause-none : goal.put_first-requires-clause-none
put_first-requires-clause-none g c =
    ap (λ m. at_text (text_of c.args.key) (entries_of names_of m.entries)) c.get_mut.follows.holds-at-none
    ∙ ap (λ t. at_text t (entries_of names_of c.args.lists.now.entries)) (sym c.as_str.ensures.value)
    ∙ missing_at names_of c.as_str.result.now c.args.lists.now.entries c.in-None.ensures.value

pub returns-in_ok-insert-in-Some-clause-lists : goal.returns-in_ok-insert-in-Some-clause-lists
returns-in_ok-insert-in-Some-clause-lists g c =
    let w = c.args.names in
    written_list c.as_str.result.now c.args.lists.now.entries (c.get_mut.follows.lender w).entries c.in-Some.place.now w c.in-Some.ensures.value (c.get_mut.follows.holds w).0
    ∙ ap (λ t. with_list t (entries_of names_of c.args.lists.now.entries) (names_of w)) (c.as_str.ensures.value ∙ c.requires.key)

pub returns-in_ok-insert-in-Some-clause-types : goal.returns-in_ok-insert-in-Some-clause-types
returns-in_ok-insert-in-Some-clause-types g c =
    let types = c.args.types.now.entries in
    ap (entries_of meta_of) c.in_ok-insert-in-Some.ensures.entries ∙ entries_with_entry meta_of types c.args.name c.args.ty
    ∙ ap (λ t. insert_entry text_cmp (entries_of meta_of types) t (meta_of c.args.ty)) c.requires.name
