use Rattle.std.proofs.Common.{◌≡◌, map, fold}
use Rattle.std.specs.Vec.Iter.{into_iter_items}
use Rattle.gql_registry_meta.specs.Views.{entries_of}
use Rattle.gql_parts.specs.BuilderViews.{enum_item_parts}
use Rattle.gql_dynamic_types.specs.Types.{with_item}
use Rattle.gql_dynamic_types.proofs.enumeration.set_items.Given as goal

-- the values so far, with those that are left put in each in turn, are all
abbrev pub invariant-loop-item : goal.invariant-loop-item
invariant-loop-item l =
    fold with_item (entries_of enum_item_parts l.items.entries) (map enum_item_parts (into_iter_items l.item-iterator))
    ≡ fold with_item (entries_of enum_item_parts l.initial.items.entries) (map enum_item_parts (into_iter_items l.initial.item-iterator))
