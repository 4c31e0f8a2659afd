use Rattle.std.proofs.Common.{rules, ◌≡◌, [], ◌∙◌, sym, ap}
use Rattle.std.specs.Str.{bytes_eq}
use Rattle.indexmap.specs.IndexMap.{insert_all}
use Rattle.gql_registry_meta.specs.Views.{entries_of, input_value_of}
use Rattle.gql_parts.specs.Builders.{input_value_meta}
use Rattle.gql_parts.specs.BuilderViews.{input_value_parts}
use Rattle.gql_registry_meta.proofs.Entries.{entries_of-then}
use Rattle.gql_registry_meta.proofs.Distinct.{insert_all-distinct}
use Rattle.gql_parts.proofs.input_value.arguments_meta.Goals as goal

pub returns : goal.returns
returns c =
    let all = c.args.arguments.now.entries in
    let none_left : c.loop-name.name-iterator ≡ [] = search rules in
    ap (entries_of input_value_of) c.shrink_to_fit.ensures.entries
    ∙ ap (λ left. insert_all bytes_eq (entries_of input_value_of c.loop-name.args.entries) (entries_of (λ a. input_value_meta (input_value_parts a)) left)) (sym none_left)
    ∙ c.loop-name.invariant
    ∙ insert_all-distinct (λ a. input_value_meta (input_value_parts a)) all c.into_iter-name-iterator.ensures.into_iter_gives.4
    ∙ sym (entries_of-then input_value_meta input_value_parts all)
