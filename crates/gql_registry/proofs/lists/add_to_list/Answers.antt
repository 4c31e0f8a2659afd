use Rattle.std.proofs.Common.{ap, ◌∙◌, ◌≡◌, subst}
use Rattle.std.proofs.lemmas.Result.{on_ok_weaker, on_err_weaker}
use Rattle.gql_registry_meta.specs.Parts.{at_text}
use Rattle.gql_registry_meta.specs.Views.{text_of, entries_of}
use Rattle.gql_registry.specs.Registry.{HasOnce, names_of, implements_listed, with_name}
use Rattle.gql_registry_meta.proofs.Entries.{written_back, missing_at}
use Rattle.gql_registry.proofs.Changes.{written_name, written_list, put_once}
use Rattle.gql_registry.proofs.lists.add_to_list.Goals as goal

pub returns-in-Some-clause-lists : goal.returns-in-Some-clause-lists
returns-in-Some-clause-lists c =
    let w = c.add_name.new.names in
    let name : text_of c.in_ok-interface.interface ≡ c.args.interface.now = c.in_ok-interface.ensures.ok in
    on_ok_weaker c.add_name.result
    (λ (more : names_of w ≡ with_name (names_of c.in-Some.names.now) (text_of c.in_ok-interface.interface)).
    written_name c.args.ty.now c.args.lists.now.entries (c.get_mut.follows.lender w).entries c.in-Some.names.now w c.in-Some.ensures.value (c.get_mut.follows.holds w).0
    c.args.interface.now (more ∙ ap (with_name (names_of c.in-Some.names.now)) name))
    c.add_name.ensures.names

pub returns-in-Some-clause-err : goal.returns-in-Some-clause-err
returns-in-Some-clause-err c =
    let w = c.add_name.new.names in
    on_err_weaker c.add_name.result
    (λ (same : names_of w ≡ names_of c.in-Some.names.now).
    written_back names_of c.args.ty.now c.args.lists.now.entries (c.get_mut.follows.lender w).entries c.in-Some.names.now w c.in-Some.ensures.value (c.get_mut.follows.holds w).0 same)
    c.add_name.ensures.err

pub begin_list-requires : goal.begin_list-requires
begin_list-requires c =
    ap (λ m. at_text c.args.ty.now (entries_of names_of m.entries)) c.get_mut.follows.holds-at-none
    ∙ missing_at names_of c.args.ty.now c.args.lists.now.entries c.in-None.ensures.value

pub returns-in-Some-clause-once : goal.returns-in-Some-clause-once
returns-in-Some-clause-once c =
    let w = c.add_name.new.names in
    let lists = c.args.lists.now.entries in
    let after = (c.get_mut.follows.lender w).entries in
    let name : text_of c.in_ok-interface.interface ≡ c.args.interface.now = c.in_ok-interface.ensures.ok in
    on_ok_weaker c.add_name.result
    (λ (once : HasOnce (names_of w) (text_of c.in_ok-interface.interface)).
    put_once c.args.ty.now (entries_of names_of lists) (entries_of names_of after) (names_of w) c.args.interface.now
    (written_list c.args.ty.now lists after c.in-Some.names.now w c.in-Some.ensures.value (c.get_mut.follows.holds w).0)
    (subst (HasOnce (names_of w)) name once))
    c.add_name.ensures.once

pub returns-in-None-clause-once : goal.returns-in-None-clause-once
returns-in-None-clause-once c =
    let after = entries_of names_of c.begin_list.new.lists.entries in
    let name : text_of c.in_ok-interface.interface ≡ c.args.interface.now = c.in_ok-interface.ensures.ok in
    on_ok_weaker c.begin_list.result
    (λ (once : HasOnce (implements_listed c.args.ty.now after) (text_of c.in_ok-interface.interface)). subst (HasOnce (implements_listed c.args.ty.now after)) name once)
    c.begin_list.ensures.once
