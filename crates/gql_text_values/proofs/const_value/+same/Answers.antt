use Rattle.std.proofs.Common.{refl}
use Rattle.std.proofs.lemmas.List.{drop_all}
use Rattle.gql_text_values.proofs.SameValues.{values_end, entries_end, plain_object}
use Rattle.gql_text_values.proofs.const_value.+same.Goals as goal

pub ConstValue::is_same-returns-in-Object-Object :
    goal.ConstValue::is_same-returns-in-Object-Object
ConstValue::is_same-returns-in-Object-Object t c =
    let e = plain_object c.in-Object-Object.a in
    let f = plain_object c.in-Object-Object.b in
    rw (c.in-Object-Object.is-0, c.in-Object-Object.is-1, e, f, c.same_entries.ensures, c.as_slice-in-Object-Object.ensures, c.as_slice-in-Object-Object-2.ensures) refl

pub same_entries-returns : goal.same_entries-returns
same_entries-returns t c =
    let none = drop_all c.loop-entry.entry-index c.args.entries.now c.loop-entry-test.false in
    rw (c.is_empty.ensures, c.loop-entry.invariant, none) (entries_end c.loop-entry.rest.now)

pub same_items-returns : goal.same_items-returns
same_items-returns t c =
    let none = drop_all c.loop-item.item-index c.args.items.now c.loop-item-test.false in
    rw (c.is_empty.ensures, c.loop-item.invariant, none) (values_end c.loop-item.rest.now)
