use Rattle.std.proofs.Common.{rules, ◌≡◌, [], ap₂, ◌∙◌}
use Rattle.std.specs.Str.{bytes_eq}
use Rattle.indexmap.specs.IndexMap.{insert_all}
use Rattle.gql_registry_meta.specs.Views.{arguments_of}
use Rattle.gql_registry_meta.proofs.Distinct.{inserted_anew, distinct_texts}
use Rattle.gql_registry_meta.proofs.copies.copy_arguments.Goals as goal

pub loop-name-init : goal.loop-name-init
loop-name-init c =
    let empty : c.new-copy.result.entries ≡ [] = search rules in
    let all : c.into_iter-name-iterator.result ≡ c.args.args.now.entries = search rules in
    ap₂ (λ a b. insert_all bytes_eq (arguments_of a) (arguments_of b)) empty all
    ∙ inserted_anew (arguments_of c.args.args.now.entries) (distinct_texts (λ value. value) c.args.args.now.entries c.iter-name-items.ensures.unique)
