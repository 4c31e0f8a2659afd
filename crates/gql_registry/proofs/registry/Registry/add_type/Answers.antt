use Rattle.std.proofs.Common.{ap, ap₂, ◌∙◌, ◌≡◌, sym, length, true, false, fold}
use Rattle.std.proofs.lemmas.Result.{on_ok_weaker}
use Rattle.gql_registry_meta.specs.Parts.{name_of}
use Rattle.gql_registry_meta.specs.Views.{entries_of, meta_of}
use Rattle.gql_registry.specs.Registry.{Contents, registry_of, types_of, names_of, implements_listed, with_type, with_name, with_list, with_all_implements}
use Rattle.gql_registry.proofs.Results.{on_ok_both, on_err_both}
use Rattle.gql_registry.proofs.OwnNames.{types_after}
use Rattle.gql_registry.proofs.Changes.{all_names, no_names, one_type_more}
use Rattle.gql_registry.proofs.registry.Registry.add_type.Goals as goal

pub returns-then-is_empty-clause-contents : goal.returns-then-is_empty-clause-contents
returns-then-is_empty-clause-contents g c =
    let before = registry_of c.args.self.now in
    let types = with_type (types_of c.args.self.now) (meta_of c.args.ty) in
    let lists : before.implements ≡ with_all_implements (name_of (meta_of c.args.ty)) before.implements (names_of c.args.interfaces.now) =
    sym (no_names (name_of (meta_of c.args.ty)) before.implements c.args.interfaces.now.keys (c.is_empty.ensures.0 c.if-is_empty.true)) in
    on_ok_weaker c.put_type.result
    (λ (e : registry_of c.put_type.new.self ≡ record before { types = types }). e ∙ ap (λ l. record before { types = types; implements = l }) lists)
    c.put_type.ensures.contents

pub returns-clause-contents : goal.returns-clause-contents
returns-clause-contents g c =
    let before = registry_of c.args.self.now in
    let type = name_of (meta_of c.args.ty) in
    let lists = before.implements in
    let some : length c.args.interfaces.now.keys ≡ 0 → ⊥ = λ none.
    let t : c.is_empty.result ≡ true = c.is_empty.ensures.1 none in
    let f : c.is_empty.result ≡ false = c.if-is_empty.false in
    cc in
    let named : c.name.result.now ≡ type = c.name.ensures in
    let made : names_of c.in_ok-listing.listing.names ≡ fold with_name (implements_listed type lists) (names_of c.args.interfaces.now) =
    c.in_ok-listing.ensures.names ∙ ap (λ t. fold with_name (implements_listed t lists) (names_of c.args.interfaces.now)) named in
    on_ok_both c.put_both.result
    (λ (a : entries_of meta_of c.put_both.new.types.entries ≡ with_type before.types (meta_of c.args.ty))
    (b : entries_of names_of c.put_both.new.lists.entries ≡ with_list type lists (names_of c.in_ok-listing.listing.names)).
    ap₂ (λ ts ls. record before { types = ts; implements = ls }) a
    (b ∙ ap (with_list type lists) made ∙ sym (all_names type lists c.args.interfaces.now.keys some)))
    c.put_both.ensures.types c.put_both.ensures.lists

pub returns-clause-err : goal.returns-clause-err
returns-clause-err g c =
    let before = registry_of c.args.self.now in
    on_err_both c.put_both.result
    (λ (a : entries_of meta_of c.put_both.new.types.entries ≡ before.types)
    (b : entries_of names_of c.put_both.new.lists.entries ≡ before.implements).
    ap₂ (λ ts ls. record before { types = ts; implements = ls }) a b)
    c.put_both.ensures.types_stay c.put_both.ensures.lists_stay

pub returns-then-is_empty-clause-one_more : goal.returns-then-is_empty-clause-one_more
returns-then-is_empty-clause-one_more g c =
    let before = registry_of c.args.self.now in
    let types = with_type (types_of c.args.self.now) (meta_of c.args.ty) in
    on_ok_weaker c.put_type.result
    (λ (e : registry_of c.put_type.new.self ≡ record before { types = types }).
    one_type_more before.types (types_of c.put_type.new.self) (meta_of c.args.ty) (ap (λ (contents : Contents). contents.types) e))
    c.put_type.ensures.contents

pub returns-clause-one_more : goal.returns-clause-one_more
returns-clause-one_more g c =
    let types = types_of c.args.self.now in
    let after = entries_of meta_of c.put_both.new.types.entries in
    on_ok_weaker c.put_both.result (λ (e : after ≡ with_type types (meta_of c.args.ty)). one_type_more types after (meta_of c.args.ty) e) c.put_both.ensures.types

pub invariant_of-self-clause-own_types : goal.invariant_of-self-clause-own_types
invariant_of-self-clause-own_types g c =
    types_after c.put_both.result (types_of c.args.self.now) (entries_of meta_of c.put_both.new.types.entries) (meta_of c.args.ty)
    c.put_both.ensures.types c.put_both.ensures.types_stay c.args.self.now.own_types
