use Rattle.std.proofs.Common.{rules, ◌≡◌, true, ap, sym, ◌∙◌}
use Rattle.std.specs.Cmp.{IsStrictWeakOrder}
use Rattle.std.specs.String.{string_cmp, string_cmp_total}
use Rattle.std.proofs.lemmas.List.Sorted.{ranks_by, answers_always}
use Rattle.gql_registry_meta.specs.Views.{text_of}
use Rattle.gql_sdl_view.specs.Ordered.{goes_before, arranged}
use Rattle.gql_sdl_text.proofs.Sorting.{stable_sort_is, ascends_from_sort}
use Rattle.gql_sdl_text.proofs.members.arrange_inputs.Goals as goal

pub returns : goal.returns
returns c =
    let is_asked : c.args.sorted ≡ true = search (rules, c.if-not-sorted.false) in
    let order : IsStrictWeakOrder (λ a b. goes_before (text_of a.now.name) (text_of b.now.name)) = ranks_by {R = string_cmp} string_cmp_total (λ m. m.now.name) in
    stable_sort_is (λ a b. goes_before (text_of a.now.name) (text_of b.now.name)) order c.args.inputs.now.items c.sort_by.new.self.items
    (ascends_from_sort (λ a b. goes_before (text_of a.now.name) (text_of b.now.name)) order c.sort_by.new.self.items (c.in_ok-sort_by.ensures.sorted _ order (answers_always _ _ _ (λ q a r p k. search rules))))
    (c.in_ok-sort_by.ensures.stable _ order (answers_always _ _ _ (λ q a r p k. search rules)))
    ∙ sym (ap (λ b. arranged (λ m. text_of m.now.name) b c.args.inputs.now.items) is_asked)
