use Rattle.std.proofs.Common.{arith}
use Rattle.gql_text.specs.Owners.{value_faults}
use Rattle.gql_text.proofs.First.{first_after_append, first_more}
use Rattle.gql_text.proofs.Values.{value_faults_list, value_faults_object}
use Rattle.gql_text.proofs.owner_values.+values.Goals as goal

pub check_entries-loop-entry-preserved : goal.check_entries-loop-entry-preserved
check_entries-loop-entry-preserved t c = grind (arith, first_more (λ e. value_faults e.1) c.args.entries.now c.loop-entry.entry-index c.entry-item.result c.args.first.now)

pub check_items-loop-item-preserved : goal.check_items-loop-item-preserved
check_items-loop-item-preserved t c = grind (arith, first_more value_faults c.args.items.now c.loop-item.item-index c.item-item.result c.args.first.now)

pub check_value-returns-in-List : goal.check_value-returns-in-List
check_value-returns-in-List t c = rw (c.in-List.is, value_faults_list c.in-List.items) (rw c.as_slice.ensures at c.check_items.ensures)

pub check_value-returns-in_ok-check_names-in-Object : goal.check_value-returns-in_ok-check_names-in-Object
check_value-returns-in_ok-check_names-in-Object t c = rw (c.in-Object.is, value_faults_object c.in-Object.entries) (grind (arith, first_after_append))
