use Rattle.std.proofs.Common.{rules, ◌≡◌, [], ap₂, ◌∙◌}
use Rattle.std.specs.Str.{bytes_eq}
use Rattle.indexmap.specs.IndexMap.{insert_all}
use Rattle.gql_registry_meta.specs.Views.{entries_of, input_value_of}
use Rattle.gql_sdl_view.specs.Ordered.{changed}
use Rattle.gql_sdl_view.specs.View.{bare_argument}
use Rattle.gql_sdl.proofs.Taken.{changed_anew}
use Rattle.gql_sdl.proofs.members.bare_arguments.Goals as goal

pub loop-key-init : goal.loop-key-init
loop-key-init c =
    let empty : c.new-made.result.entries ≡ [] = search rules in
    let all : c.into_iter-key-iterator.result ≡ c.args.args.now.entries = search rules in
    ap₂ (λ a b. insert_all bytes_eq (entries_of input_value_of a) (changed bare_argument (entries_of input_value_of b))) empty all
    ∙ changed_anew bare_argument input_value_of c.args.args.now.entries c.iter-key-items.ensures.unique
