use Rattle.std.proofs.Common.{rules, ◌≡◌, [], map, ap, sym, ◌∙◌, subst}
use Rattle.std.specs.List.Sorted.{IsStrictlySortedBy}
use Rattle.std.specs.String.{string_cmp}
use Rattle.gql_registry_meta.specs.Parts.{text_cmp}
use Rattle.gql_registry_meta.specs.Views.{text_of, texts_of}
use Rattle.gql_registry_closures.specs.Answers.{set_names}
use Rattle.gql_registry_closures.proofs.Lists.{all_items}
use Rattle.gql_registry_closures.proofs.Kept.{ordered_texts}
use Rattle.gql_registry_closures.proofs.naming.in_order.Goals as goal

pub returns-clause-ascending : goal.returns-clause-ascending
returns-clause-ascending c =
    let keys : c.into_iter-name-iterator.result ≡ c.args.set.keys = search rules in
    let none : c.loop-name.name-iterator ≡ [] = search rules in
    let ordered : IsStrictlySortedBy string_cmp c.args.set.keys = search rules in
    let all : texts_of c.loop-name.names ≡ set_names c.args.set =
    all_items text_of (texts_of c.loop-name.names) _ c.loop-name.name-iterator none c.loop-name.invariant ∙ ap (map text_of) keys in
    subst (IsStrictlySortedBy text_cmp) (sym all) (ordered_texts c.args.set.keys ordered)
