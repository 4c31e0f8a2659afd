use Rattle.std.proofs.Common.{rules, ◌≡◌, ◌++◌, ◌∷◌, [], flat_map, ap, ◌∙◌}
use Rattle.gql_registry_meta.specs.Parts.{Text}
use Rattle.gql_registry_meta.specs.Views.{text_of}
use Rattle.gql_registry_closures.specs.Links.{plain_link}
use Rattle.gql_registry_closures.specs.Table.{edges_of}
use Rattle.gql_registry_closures.proofs.Lists.{one_piece, all_pieces, edges_of_names}
use Rattle.gql_registry_closures.proofs.edges.add_names.Goals as goal

pub loop-name-preserved : goal.loop-name-preserved
loop-name-preserved c =
    let first : c.loop-name.name-iterator ≡ c.in-Some.name.now ∷ c.next.new.self = search rules in
    one_piece (λ x. edges_of c.args.numbers.now (plain_link (text_of x) ∷ [])) c.loop-name.edges.items c.add_edge.new.edges.items _ c.in-Some.name.now c.loop-name.name-iterator c.next.new.self
    (c.in_ok-add_edge.ensures ∙ ap (λ (n : Text). c.loop-name.edges.items ++ edges_of c.args.numbers.now (plain_link n ∷ [])) c.as_str.ensures.value) first c.loop-name.invariant

pub returns : goal.returns
returns c =
    let all : c.into_iter-name-iterator.result ≡ c.args.names.now.keys = search rules in
    let none : c.loop-name.name-iterator ≡ [] = search rules in
    all_pieces (λ x. edges_of c.args.numbers.now (plain_link (text_of x) ∷ [])) c.loop-name.edges.items _ c.loop-name.name-iterator none c.loop-name.invariant
    ∙ ap (λ xs. c.args.edges.now.items ++ flat_map (λ x. edges_of c.args.numbers.now (plain_link (text_of x) ∷ [])) xs) all
    ∙ ap (λ es. c.args.edges.now.items ++ es) (edges_of_names c.args.numbers.now text_of plain_link c.args.names.now.keys)
