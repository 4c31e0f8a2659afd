use Rattle.std.proofs.Common.{refl, sym, ap, ◌∙◌, map}
use Rattle.gql_registry_meta.specs.Views.{text_of}
use Rattle.gql_registry_meta.proofs.Names.{names_have_text, names_with-new}
use Rattle.gql_dynamic_types.proofs.members.put_new_name.Goals as goal

pub returns-then-contains-clause-repeated : goal.returns-then-contains-clause-repeated
returns-then-contains-clause-repeated c =
    (refl, sym (names_have_text (text_of c.args.name) c.args.names.now.keys) ∙ sym c.contains.ensures ∙ c.if-contains.true)

pub returns-clause-new : goal.returns-clause-new
returns-clause-new c = sym (names_have_text (text_of c.args.name) c.args.names.now.keys) ∙ sym c.contains.ensures ∙ c.if-contains.false

pub returns-clause-put : goal.returns-clause-put
returns-clause-put c =
    ap (map text_of) c.in_ok-insert.ensures.keys
    ∙ names_with-new c.args.names.now.keys c.args.name
    (sym (names_have_text (text_of c.args.name) c.args.names.now.keys) ∙ sym c.contains.ensures ∙ c.if-contains.false)
