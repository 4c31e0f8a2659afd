use Rattle.std.proofs.Common.{rules, ◌≡◌, ◌++◌, [], flat_map, ap, ◌∙◌}
use Rattle.gql_registry_meta.specs.Views.{text_of, meta_of}
use Rattle.gql_registry_closures.specs.Links.{keyed_links}
use Rattle.gql_registry_closures.specs.Table.{edges_of}
use Rattle.gql_registry_closures.proofs.Lists.{all_pieces, edges_of_entries}
use Rattle.gql_registry_closures.proofs.table.add_all_keyed.Goals as goal

pub returns : goal.returns
returns g c =
    let all : c.into_iter-name-iterator.result ≡ c.args.types.now.entries = search rules in
    let none : c.loop-name.name-iterator ≡ [] = search rules in
    all_pieces (λ e. edges_of c.args.numbers.now (keyed_links (text_of e.0, meta_of e.1))) c.loop-name.starts.items _ c.loop-name.name-iterator none c.loop-name.invariant
    ∙ ap (λ xs. c.args.starts.now.items ++ flat_map (λ e. edges_of c.args.numbers.now (keyed_links (text_of e.0, meta_of e.1))) xs) all
    ∙ ap (λ es. c.args.starts.now.items ++ es) (edges_of_entries c.args.numbers.now meta_of keyed_links c.args.types.now.entries)
