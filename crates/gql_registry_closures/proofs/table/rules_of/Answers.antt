use Rattle.std.proofs.Common.{rules, ◌≡◌, [], map, ap, ◌∙◌}
use Rattle.std.specs.Map.{values_of}
use Rattle.gql_registry_meta.specs.Views.{meta_of}
use Rattle.gql_registry_meta.specs.Kinds.{visible_of}
use Rattle.gql_registry_closures.proofs.Lists.{all_items, map_viewed}
use Rattle.gql_registry_closures.proofs.table.rules_of.Goals as goal

pub returns : goal.returns
returns g c =
    let all : c.into_iter-ty-iterator.result ≡ values_of c.args.types.now.entries = search rules in
    let none : c.loop-ty.ty-iterator ≡ [] = search rules in
    all_items (λ x. visible_of (meta_of x)) c.loop-ty.rules.items _ c.loop-ty.ty-iterator none c.loop-ty.invariant
    ∙ ap (map (λ x. visible_of (meta_of x))) all
    ∙ map_viewed meta_of visible_of c.args.types.now.entries
