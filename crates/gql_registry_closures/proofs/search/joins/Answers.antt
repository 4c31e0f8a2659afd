use Rattle.std.proofs.Common.{arith, rules, ◌≡◌, ◌<◌, ℕ, [], length, get_or, sym, ◌∙◌, subst}
use Rattle.std.specs.List.{AllByRecursion}
use Rattle.gql_registry_closures.specs.Table.{lists}
use Rattle.gql_registry_closures.proofs.Walks.{row_is}
use Rattle.gql_registry_closures.proofs.search.joins.Goals as goal

pub has_marked-requires : goal.has_marked-requires
has_marked-requires g c =
    let table = c.args.table.now in
    let row = c.index-then-is_shown.result.now in
    let l : c.args.place < length table.implementers.items = omega (arith, c.requires.place, c.requires.size, c.requires.whole.implementers) in
    let e : row ≡ get_or table.implementers.items c.args.place row = search rules in
    let is : get_or (lists table.implementers.items) c.args.place [] ≡ c.deref.result.now = row_is table.implementers.items c.args.place row l e ∙ sym c.deref.ensures.value in
    subst (AllByRecursion (λ (place : ℕ). place < length c.args.marks.now)) is
    (subst (λ n. AllByRecursion (λ (place : ℕ). place < n) (get_or (lists table.implementers.items) c.args.place [])) (sym c.requires.size) (c.requires.whole.implementers_within c.args.place))
