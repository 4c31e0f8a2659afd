use Rattle.std.proofs.Common.{rules, ◌≡◌, ◌++◌, ◌∷◌, [], flat_map, ap, ◌∙◌}
use Rattle.std.specs.Map.{values_of}
use Rattle.gql_registry_meta.specs.Views.{texts_in, field_of}
use Rattle.gql_registry_closures.specs.Names.{field_names}
use Rattle.gql_registry_closures.proofs.Lists.{one_piece, all_pieces, flat_map_viewed}
use Rattle.gql_registry_closures.proofs.naming.add_fields.Goals as goal

pub loop-field-preserved : goal.loop-field-preserved
loop-field-preserved c =
    let first : c.loop-field.field-iterator ≡ c.in-Some.field.now ∷ c.next.new.self = search rules in
    one_piece (λ x. field_names (field_of x)) (texts_in c.loop-field.names.items) (texts_in c.add_field.new.names.items) _ c.in-Some.field.now c.loop-field.field-iterator c.next.new.self
    c.in_ok-add_field.ensures first c.loop-field.invariant

pub returns : goal.returns
returns c =
    let all : c.into_iter-field-iterator.result ≡ values_of c.args.fields.now.entries = search rules in
    let none : c.loop-field.field-iterator ≡ [] = search rules in
    all_pieces (λ x. field_names (field_of x)) (texts_in c.loop-field.names.items) _ c.loop-field.field-iterator none c.loop-field.invariant
    ∙ ap (λ xs. texts_in c.args.names.now.items ++ flat_map (λ x. field_names (field_of x)) xs) all
    ∙ ap (λ l. texts_in c.args.names.now.items ++ l) (flat_map_viewed field_of field_names c.args.fields.now.entries)
