use Rattle.std.proofs.Common.{rules, ◌≡◌, [], ap₂, ◌∙◌}
use Rattle.std.specs.Str.{bytes_eq}
use Rattle.indexmap.specs.IndexMap.{insert_all}
use Rattle.gql_registry_meta.specs.Views.{entries_of, enum_value_of}
use Rattle.gql_parts.specs.Builders.{enum_item_meta}
use Rattle.gql_parts.specs.BuilderViews.{enum_item_parts}
use Rattle.gql_dynamic_types.specs.Types.{each_meta}
use Rattle.gql_dynamic_types.proofs.Made.{made_anew}
use Rattle.gql_dynamic_types.proofs.members.enum_values_meta.Goals as goal

pub loop-name-init : goal.loop-name-init
loop-name-init c =
    let empty : c.new-made.result.entries ≡ [] = search rules in
    let all : c.into_iter-name-iterator.result ≡ c.args.items.now.entries = search rules in
    ap₂ (λ a b. insert_all bytes_eq (entries_of enum_value_of a) (each_meta enum_item_meta (entries_of enum_item_parts b))) empty all
    ∙ made_anew enum_item_meta enum_item_parts c.args.items.now.entries c.iter-name-items.ensures.unique
