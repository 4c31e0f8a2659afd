use Rattle.std.proofs.Common.{rules, ◌≡◌, ◌++◌, map, flat_map, ap, ◌∙◌}
use Rattle.std.specs.Map.{values_of}
use Rattle.gql_registry_meta.specs.Views.{texts_in, entries_of, meta_of, directive_of}
use Rattle.gql_registry_closures.specs.Links.{plain_link, directive_links, keyed_links}
use Rattle.gql_registry_closures.specs.Table.{edges_of}
use Rattle.gql_registry_closures.proofs.Lists.{three_parts}
use Rattle.gql_registry_closures.proofs.table.starts_of.Goals as goal

pub returns : goal.returns
returns g c =
    let names = c.args.numbers.now in
    let directives = flat_map directive_links (values_of (entries_of directive_of c.args.directives.now.entries)) in
    let roots = map plain_link (texts_in c.args.roots.now) in
    let keyed = flat_map keyed_links (entries_of meta_of c.args.types.now.entries) in
    let first : c.add_directives.new.starts.items ≡ edges_of names directives = search rules in
    c.in_ok-add_all_keyed.ensures
    ∙ ap (λ l. l ++ edges_of names keyed) (c.in_ok-add_roots.ensures ∙ ap (λ l. l ++ edges_of names roots) first)
    ∙ three_parts names directives roots keyed
