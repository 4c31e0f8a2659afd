use Rattle.std.proofs.Common.{◌≡◌}
use Rattle.std.specs.Str.{bytes_eq}
use Rattle.indexmap.specs.IndexMap.{insert_all}
use Rattle.gql_registry_meta.specs.Views.{entries_of, field_of}
use Rattle.gql_parts.specs.Builders.{subscription_field_meta}
use Rattle.gql_parts.specs.BuilderViews.{subscription_field_parts}
use Rattle.gql_dynamic_types.specs.Types.{each_meta}
use Rattle.gql_dynamic_types.proofs.members.subscription_fields_meta.Given as goal

-- what is made so far, with what is left put in each in turn, is all
abbrev pub invariant-loop-name : goal.invariant-loop-name
invariant-loop-name l =
    insert_all bytes_eq (entries_of field_of l.made.entries) (each_meta subscription_field_meta (entries_of subscription_field_parts l.name-iterator))
    ≡ each_meta subscription_field_meta (entries_of subscription_field_parts l.fn.fields.entries)
