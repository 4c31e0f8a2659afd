use Rattle.std.proofs.Common.{rules, ◌≡◌, ◌++◌, ◌∷◌, [], flat_map, ap, ◌∙◌}
use Rattle.std.specs.Map.{values_of}
use Rattle.gql_registry_meta.specs.Views.{texts_in, meta_of}
use Rattle.gql_registry_closures.specs.Names.{type_names}
use Rattle.gql_registry_closures.proofs.Lists.{one_piece, all_pieces, flat_map_viewed}
use Rattle.gql_registry_closures.proofs.naming.add_types.Goals as goal

pub loop-ty-preserved : goal.loop-ty-preserved
loop-ty-preserved g c =
    let first : c.loop-ty.ty-iterator ≡ c.in-Some.ty.now ∷ c.next.new.self = search rules in
    one_piece (λ x. type_names (meta_of x)) (texts_in c.loop-ty.names.items) (texts_in c.add_type.new.names.items) _ c.in-Some.ty.now c.loop-ty.ty-iterator c.next.new.self
    c.in_ok-add_type.ensures first c.loop-ty.invariant

pub returns : goal.returns
returns g c =
    let all : c.into_iter-ty-iterator.result ≡ values_of c.args.types.now.entries = search rules in
    let none : c.loop-ty.ty-iterator ≡ [] = search rules in
    all_pieces (λ x. type_names (meta_of x)) (texts_in c.loop-ty.names.items) _ c.loop-ty.ty-iterator none c.loop-ty.invariant
    ∙ ap (λ xs. texts_in c.args.names.now.items ++ flat_map (λ x. type_names (meta_of x)) xs) all
    ∙ ap (λ l. texts_in c.args.names.now.items ++ l) (flat_map_viewed meta_of type_names c.args.types.now.entries)
