use Rattle.std.proofs.Common.{◌≡◌}
use Rattle.std.specs.Str.{bytes_eq}
use Rattle.indexmap.specs.IndexMap.{insert_all}
use Rattle.gql_registry_meta.specs.Views.{entries_of, enum_value_of}
use Rattle.gql_parts.specs.Builders.{enum_item_meta}
use Rattle.gql_parts.specs.BuilderViews.{enum_item_parts}
use Rattle.gql_dynamic_types.specs.Types.{each_meta}
use Rattle.gql_dynamic_types.proofs.members.enum_values_meta.Given as goal

-- what is made so far, with what is left put in each in turn, is all
abbrev pub invariant-loop-name : goal.invariant-loop-name
invariant-loop-name l =
    insert_all bytes_eq (entries_of enum_value_of l.made.entries) (each_meta enum_item_meta (entries_of enum_item_parts l.name-iterator))
    ≡ each_meta enum_item_meta (entries_of enum_item_parts l.fn.items.entries)
