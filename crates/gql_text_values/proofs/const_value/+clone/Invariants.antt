use Rattle.std.proofs.Common.{◌≡◌, take}
use Rattle.gql_text_values.proofs.const_value.+clone.Given as goal

abbrev pub invariant-clone_items-loop-item : goal.invariant-clone_items-loop-item
invariant-clone_items-loop-item l = l.copies ≡ take l.item-index l.items

abbrev pub invariant-clone_entries-loop-entry : goal.invariant-clone_entries-loop-entry
invariant-clone_entries-loop-entry l = l.copies ≡ take l.entry-index l.entries
