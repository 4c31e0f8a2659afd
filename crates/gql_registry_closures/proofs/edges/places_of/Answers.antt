use Rattle.std.proofs.Common.{rules, ◌≡◌, ◌++◌, ◌∷◌, [], flat_map, ap, sym, ◌∙◌}
use Rattle.gql_registry_meta.specs.Parts.{Text}
use Rattle.gql_registry_meta.specs.Views.{text_of}
use Rattle.gql_registry_closures.specs.Table.{places_of}
use Rattle.gql_registry_closures.proofs.Lists.{one_piece, all_pieces, places_of_each}
use Rattle.gql_registry_closures.proofs.edges.places_of.Goals as goal

pub loop-name-preserved : goal.loop-name-preserved
loop-name-preserved c =
    let first : c.loop-name.name-iterator ≡ c.in-Some.name.now ∷ c.next.new.self = search rules in
    one_piece (λ x. places_of c.args.numbers.now (text_of x ∷ [])) c.loop-name.places.items c.add_place.new.places.items _ c.in-Some.name.now c.loop-name.name-iterator c.next.new.self
    (c.in_ok-add_place.ensures ∙ ap (λ (n : Text). c.loop-name.places.items ++ places_of c.args.numbers.now (n ∷ [])) c.as_str.ensures.value) first c.loop-name.invariant

pub returns : goal.returns
returns c =
    let all : c.into_iter-name-iterator.result ≡ c.args.names.now.keys = search rules in
    let none : c.loop-name.name-iterator ≡ [] = search rules in
    all_pieces (λ x. places_of c.args.numbers.now (text_of x ∷ [])) c.loop-name.places.items _ c.loop-name.name-iterator none c.loop-name.invariant
    ∙ ap (flat_map (λ x. places_of c.args.numbers.now (text_of x ∷ []))) all
    ∙ sym (places_of_each c.args.numbers.now text_of c.args.names.now.keys)
