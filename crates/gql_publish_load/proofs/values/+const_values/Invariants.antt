use Rattle.std.proofs.Common.{◌≡◌, map, take}
use Rattle.gql_text.specs.DocumentOf.{const_value_of, const_entry_of}
use Rattle.gql_publish_load.proofs.values.+const_values.Given as goal

-- what was found so far
abbrev pub invariant-const_entries-loop-entry : goal.invariant-const_entries-loop-entry
invariant-const_entries-loop-entry l = l.found ≡ map const_entry_of (take l.entry-index l.entries)

abbrev pub invariant-const_items-loop-item : goal.invariant-const_items-loop-item
invariant-const_items-loop-item l = l.found ≡ map const_value_of (take l.item-index l.items)
