use Rattle.std.proofs.Common.{rules, ◌≡◌, ◌++◌, ◌∷◌, [], flat_map, ap, ◌∙◌}
use Rattle.std.specs.Map.{values_of}
use Rattle.gql_registry_meta.specs.Views.{texts_in, directive_of}
use Rattle.gql_registry_closures.specs.Names.{directive_names}
use Rattle.gql_registry_closures.proofs.Lists.{one_piece, all_pieces, flat_map_viewed}
use Rattle.gql_registry_closures.proofs.naming.add_directives.Goals as goal

pub loop-directive-preserved : goal.loop-directive-preserved
loop-directive-preserved c =
    let first : c.loop-directive.directive-iterator ≡ c.in-Some.directive.now ∷ c.next.new.self = search rules in
    one_piece (λ x. directive_names (directive_of x)) (texts_in c.loop-directive.names.items) (texts_in c.add_directive.new.names.items) _ c.in-Some.directive.now c.loop-directive.directive-iterator c.next.new.self
    c.in_ok-add_directive.ensures first c.loop-directive.invariant

pub returns : goal.returns
returns c =
    let all : c.into_iter-directive-iterator.result ≡ values_of c.args.directives.now.entries = search rules in
    let none : c.loop-directive.directive-iterator ≡ [] = search rules in
    all_pieces (λ x. directive_names (directive_of x)) (texts_in c.loop-directive.names.items) _ c.loop-directive.directive-iterator none c.loop-directive.invariant
    ∙ ap (λ xs. texts_in c.args.names.now.items ++ flat_map (λ x. directive_names (directive_of x)) xs) all
    ∙ ap (λ l. texts_in c.args.names.now.items ++ l) (flat_map_viewed directive_of directive_names c.args.directives.now.entries)
