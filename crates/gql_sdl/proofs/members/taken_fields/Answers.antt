use Rattle.std.proofs.Common.{rules, ◌≡◌, [], ap₂, ◌∙◌}
use Rattle.std.specs.Str.{bytes_eq}
use Rattle.indexmap.specs.IndexMap.{insert_all}
use Rattle.gql_registry_meta.specs.Views.{entries_of, field_of}
use Rattle.gql_sdl_view.specs.Options.{registry_choice}
use Rattle.gql_sdl_view.specs.View.{viewed_field, is_kept}
use Rattle.gql_sdl.specs.Values.{options_of}
use Rattle.gql_sdl.specs.Taken.{taken_fields}
use Rattle.gql_sdl.proofs.Taken.{put_anew}
use Rattle.gql_sdl.proofs.members.taken_fields.Goals as goal

pub loop-key-init : goal.loop-key-init
loop-key-init c =
    let o = options_of c.args.options in
    let empty : c.new-made.result.entries ≡ [] = search rules in
    let all : c.into_iter-key-iterator.result ≡ c.args.fields.now.entries = search rules in
    ap₂ (λ a b. insert_all bytes_eq (entries_of field_of a) (taken_fields o (entries_of field_of b))) empty all
    ∙ put_anew (viewed_field (registry_choice o)) (λ field. is_kept (registry_choice o) field.1) field_of c.args.fields.now.entries c.iter-key-items.ensures.unique
