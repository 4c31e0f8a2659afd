use Rattle.std.proofs.Common.{rules, ◌≡◌, ◌∷◌, [], List, map, fold, ap, sym, ◌∙◌, subst}
use Rattle.std.specs.List.{IsDistinct}
use Rattle.std.specs.Map.{keys_of}
use Rattle.std.specs.Str.{bytes_eq}
use Rattle.indexmap.specs.IndexSet.{insert_key}
use Rattle.gql_registry_meta.specs.Parts.{Text}
use Rattle.gql_registry_meta.specs.Views.{text_of, texts_in, meta_of}
use Rattle.gql_registry_meta.proofs.Borrowed.{texts_with}
use Rattle.gql_registry_meta.proofs.Entries.{names_of-entries}
use Rattle.gql_registry_closures.proofs.Kept.{ascending_distinct}
use Rattle.gql_registry_closures.proofs.Places.{all_inserted}
use Rattle.gql_registry_closures.proofs.numbers.Numbers.new.Goals as goal

pub loop-name-preserved : goal.loop-name-preserved
loop-name-preserved g c =
    let first : c.loop-name.name-iterator ≡ c.in-Some.name.now ∷ c.next.new.self = search rules in
    let put = ap texts_in c.in_ok-insert.ensures.keys ∙ texts_with c.loop-name.names.keys c.as_str.result in
    ap (λ (names : List Text). fold (insert_key bytes_eq) names (map text_of c.next.new.self)) (put ∙ ap (insert_key bytes_eq (texts_in c.loop-name.names.keys)) c.as_str.ensures.value)
    ∙ sym (ap (λ it. fold (insert_key bytes_eq) (texts_in c.loop-name.names.keys) (map text_of it)) first)
    ∙ c.loop-name.invariant

pub returns-clause-distinct : goal.returns-clause-distinct
returns-clause-distinct g c =
    subst (IsDistinct bytes_eq) (sym (names_of-entries meta_of c.args.types.now.entries)) (ascending_distinct (keys_of c.args.types.now.entries) c.keys-name-items.ensures.ordered)

pub returns-clause-names : goal.returns-clause-names
returns-clause-names g c =
    let all : c.into_iter-name-iterator.result ≡ keys_of c.args.types.now.entries = search rules in
    let none : c.loop-name.name-iterator ≡ [] = search rules in
    let empty : texts_in c.new-names.result.keys ≡ [] = search rules in
    sym (ap (λ it. fold (insert_key bytes_eq) (texts_in c.loop-name.names.keys) (map text_of it)) none)
    ∙ c.loop-name.invariant
    ∙ ap (λ (names : List Text). fold (insert_key bytes_eq) names (map text_of c.into_iter-name-iterator.result)) empty
    ∙ ap (λ it. fold (insert_key bytes_eq) [] (map text_of it)) all
    ∙ all_inserted (map text_of (keys_of c.args.types.now.entries)) (ascending_distinct (keys_of c.args.types.now.entries) c.keys-name-items.ensures.ordered)
    ∙ sym (names_of-entries meta_of c.args.types.now.entries)
