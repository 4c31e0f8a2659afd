use Rattle.std.proofs.Common.{rules, ◌≡◌, [], ap₂, ◌∙◌}
use Rattle.std.specs.Str.{bytes_eq}
use Rattle.indexmap.specs.IndexMap.{insert_all}
use Rattle.gql_registry_meta.specs.Views.{entries_of, field_of}
use Rattle.gql_parts.specs.Builders.{subscription_field_meta}
use Rattle.gql_parts.specs.BuilderViews.{subscription_field_parts}
use Rattle.gql_dynamic_types.specs.Types.{each_meta}
use Rattle.gql_dynamic_types.proofs.Made.{made_anew}
use Rattle.gql_dynamic_types.proofs.members.subscription_fields_meta.Goals as goal

pub loop-name-init : goal.loop-name-init
loop-name-init c =
    let empty : c.new-made.result.entries ≡ [] = search rules in
    let all : c.into_iter-name-iterator.result ≡ c.args.fields.now.entries = search rules in
    ap₂ (λ a b. insert_all bytes_eq (entries_of field_of a) (each_meta subscription_field_meta (entries_of subscription_field_parts b))) empty all
    ∙ made_anew subscription_field_meta subscription_field_parts c.args.fields.now.entries c.iter-name-items.ensures.unique
