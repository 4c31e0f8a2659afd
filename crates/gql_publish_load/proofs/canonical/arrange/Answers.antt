use Rattle.std.proofs.Common.{rules}
use Rattle.std.specs.Cmp.{IsStrictWeakOrder}
use Rattle.std.proofs.lemmas.Cmp.{nat_list_cmp_total}
use Rattle.std.proofs.lemmas.List.Sorted.{ranks_by, answers_always}
use Rattle.gql_registry_meta.specs.Parts.{text_cmp}
use Rattle.gql_dynamic.specs.SchemaTypes.{type_name}
use Rattle.gql_dynamic.specs.SchemaViews.{type_parts}
use Rattle.gql_sdl_view.specs.Ordered.{goes_before}
use Rattle.gql_sdl_text.proofs.Sorting.{stable_sort_is, ascends_from_sort}
use Rattle.gql_publish_load.proofs.canonical.arrange.Goals as goal

pub returns : goal.returns
returns g c =
    let order : IsStrictWeakOrder (λ a b. goes_before (type_name (type_parts a.now)) (type_name (type_parts b.now))) = ranks_by {R = text_cmp} nat_list_cmp_total (λ t. type_name (type_parts t.now)) in
    stable_sort_is (λ a b. goes_before (type_name (type_parts a.now)) (type_name (type_parts b.now))) order c.args.types.now.items c.sort_by.new.self.items
    (ascends_from_sort (λ a b. goes_before (type_name (type_parts a.now)) (type_name (type_parts b.now))) order c.sort_by.new.self.items (c.in_ok-sort_by.ensures.sorted _ order (answers_always _ _ _ (λ q a r p k. search rules))))
    (c.in_ok-sort_by.ensures.stable _ order (answers_always _ _ _ (λ q a r p k. search rules)))
