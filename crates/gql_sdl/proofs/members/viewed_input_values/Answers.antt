use Rattle.std.proofs.Common.{rules, ◌≡◌, [], ap₂, ◌∙◌}
use Rattle.std.specs.Str.{bytes_eq}
use Rattle.indexmap.specs.IndexMap.{insert_all}
use Rattle.gql_registry_meta.specs.Views.{entries_of, input_value_of}
use Rattle.gql_sdl_view.specs.Ordered.{changed}
use Rattle.gql_sdl_view.specs.View.{viewed_input_value}
use Rattle.gql_sdl.proofs.Taken.{changed_anew}
use Rattle.gql_sdl.proofs.members.viewed_input_values.Goals as goal

pub loop-key-init : goal.loop-key-init
loop-key-init c =
    let empty : c.new-made.result.entries ≡ [] = search rules in
    let all : c.into_iter-key-iterator.result ≡ c.args.values.now.entries = search rules in
    ap₂ (λ a b. insert_all bytes_eq (entries_of input_value_of a) (changed viewed_input_value (entries_of input_value_of b))) empty all
    ∙ changed_anew viewed_input_value input_value_of c.args.values.now.entries c.iter-key-items.ensures.unique
