use Rattle.std.proofs.Common.{rules, ◌≡◌, ◌++◌, ◌∷◌, [], flat_map, ap, ◌∙◌}
use Rattle.std.specs.Map.{values_of}
use Rattle.gql_registry_meta.specs.Views.{directive_of}
use Rattle.gql_registry_closures.specs.Links.{directive_links}
use Rattle.gql_registry_closures.specs.Table.{edges_of}
use Rattle.gql_registry_closures.proofs.Lists.{one_piece, all_pieces, edges_of_groups}
use Rattle.gql_registry_closures.proofs.table.add_directives.Goals as goal

pub loop-directive-preserved : goal.loop-directive-preserved
loop-directive-preserved c =
    let first : c.loop-directive.directive-iterator ≡ c.in-Some.directive.now ∷ c.next.new.self = search rules in
    one_piece (λ x. edges_of c.args.numbers.now (directive_links (directive_of x))) c.loop-directive.starts.items c.add_inputs.new.edges.items _ c.in-Some.directive.now c.loop-directive.directive-iterator c.next.new.self
    c.in_ok-add_inputs.ensures first c.loop-directive.invariant

pub returns : goal.returns
returns c =
    let all : c.into_iter-directive-iterator.result ≡ values_of c.args.directives.now.entries = search rules in
    let none : c.loop-directive.directive-iterator ≡ [] = search rules in
    all_pieces (λ x. edges_of c.args.numbers.now (directive_links (directive_of x))) c.loop-directive.starts.items _ c.loop-directive.directive-iterator none c.loop-directive.invariant
    ∙ ap (λ xs. c.args.starts.now.items ++ flat_map (λ x. edges_of c.args.numbers.now (directive_links (directive_of x))) xs) all
    ∙ ap (λ es. c.args.starts.now.items ++ es) (edges_of_groups c.args.numbers.now directive_of directive_links c.args.directives.now.entries)
