use Rattle.std.proofs.Common.{refl, sym, ◌∙◌}
use Rattle.std.specs.String.{string_eq}
use Rattle.indexmap.proofs.CallerLemmas.{insert_entry-new}
use Rattle.gql_registry_meta.specs.Views.{text_of}
use Rattle.gql_registry_meta.proofs.Entries.{key_found, nothing_at}
use Rattle.gql_dynamic_types.proofs.members.put_new.Goals as goal

pub returns-then-contains_key-clause-repeated : goal.returns-then-contains_key-clause-repeated
returns-then-contains_key-clause-repeated g c =
    (refl, sym (key_found (text_of c.args.name) c.args.entries.now.entries) ∙ sym c.contains_key.ensures ∙ c.if-contains_key.true)

pub returns-clause-new : goal.returns-clause-new
returns-clause-new g c = sym (key_found (text_of c.args.name) c.args.entries.now.entries) ∙ sym c.contains_key.ensures ∙ c.if-contains_key.false

pub returns-clause-put : goal.returns-clause-put
returns-clause-put g c =
    c.in_ok-insert.ensures.entries
    ∙ insert_entry-new string_eq c.args.entries.now c.args.name c.args.value
    (nothing_at c.args.name c.args.entries.now.entries (sym c.contains_key.ensures ∙ c.if-contains_key.false))
