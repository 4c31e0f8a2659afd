use Rattle.std.proofs.Common.{rules, ◌≡◌, ◌++◌, ◌∷◌, [], flat_map, ap, ◌∙◌}
use Rattle.std.specs.Map.{values_of}
use Rattle.gql_registry_meta.specs.Views.{field_of}
use Rattle.gql_registry_closures.specs.Links.{field_links}
use Rattle.gql_registry_closures.specs.Table.{edges_of}
use Rattle.gql_registry_closures.proofs.Lists.{one_piece, all_pieces, edges_of_groups}
use Rattle.gql_registry_closures.proofs.edges.add_fields.Goals as goal

pub loop-field-preserved : goal.loop-field-preserved
loop-field-preserved c =
    let first : c.loop-field.field-iterator ≡ c.in-Some.field.now ∷ c.next.new.self = search rules in
    one_piece (λ x. edges_of c.args.numbers.now (field_links (field_of x))) c.loop-field.edges.items c.add_field.new.edges.items _ c.in-Some.field.now c.loop-field.field-iterator c.next.new.self
    c.in_ok-add_field.ensures first c.loop-field.invariant

pub returns : goal.returns
returns c =
    let all : c.into_iter-field-iterator.result ≡ values_of c.args.fields.now.entries = search rules in
    let none : c.loop-field.field-iterator ≡ [] = search rules in
    all_pieces (λ x. edges_of c.args.numbers.now (field_links (field_of x))) c.loop-field.edges.items _ c.loop-field.field-iterator none c.loop-field.invariant
    ∙ ap (λ xs. c.args.edges.now.items ++ flat_map (λ x. edges_of c.args.numbers.now (field_links (field_of x))) xs) all
    ∙ ap (λ es. c.args.edges.now.items ++ es) (edges_of_groups c.args.numbers.now field_of field_links c.args.fields.now.entries)
