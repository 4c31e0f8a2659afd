use Rattle.std.proofs.Common.{rules, ◌≡◌, ◌++◌, ◌∷◌, [], flat_map, ap, ◌∙◌}
use Rattle.std.specs.Map.{values_of}
use Rattle.gql_registry_meta.specs.Parts.{Text}
use Rattle.gql_registry_meta.specs.Views.{input_value_of}
use Rattle.gql_registry_closures.specs.Links.{named_in, input_link}
use Rattle.gql_registry_closures.specs.Table.{edges_of}
use Rattle.gql_registry_closures.proofs.Lists.{one_piece, all_pieces, edges_of_each}
use Rattle.gql_registry_closures.proofs.edges.add_inputs.Goals as goal

pub loop-input-preserved : goal.loop-input-preserved
loop-input-preserved c =
    let outer = c.args.outer in
    let input = c.in-Some.input.now in
    let first : c.loop-input.input-iterator ≡ input ∷ c.next.new.self = search rules in
    let name = c.concrete_typename-name.ensures.name ∙ ap named_in c.as_str.ensures.value in
    one_piece (λ x. edges_of c.args.numbers.now (input_link outer (input_value_of x) ∷ [])) c.loop-input.edges.items c.add_edge.new.edges.items _ input c.loop-input.input-iterator c.next.new.self
    (c.in_ok-add_edge.ensures ∙ ap (λ (n : Text). c.loop-input.edges.items ++ edges_of c.args.numbers.now (record { outer = outer; inner = input.visible; name = n } ∷ [])) name)
    first c.loop-input.invariant

pub returns : goal.returns
returns c =
    let all : c.into_iter-input-iterator.result ≡ values_of c.args.inputs.now.entries = search rules in
    let none : c.loop-input.input-iterator ≡ [] = search rules in
    all_pieces (λ x. edges_of c.args.numbers.now (input_link c.args.outer (input_value_of x) ∷ [])) c.loop-input.edges.items _ c.loop-input.input-iterator none c.loop-input.invariant
    ∙ ap (λ xs. c.args.edges.now.items ++ flat_map (λ x. edges_of c.args.numbers.now (input_link c.args.outer (input_value_of x) ∷ [])) xs) all
    ∙ ap (λ es. c.args.edges.now.items ++ es) (edges_of_each c.args.numbers.now input_value_of (input_link c.args.outer) c.args.inputs.now.entries)
