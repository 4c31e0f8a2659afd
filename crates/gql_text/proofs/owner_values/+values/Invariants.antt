use Rattle.std.proofs.Common.{◌≡◌, take}
use Rattle.std.specs.Prelude.{flat_map}
use Rattle.gql_text.specs.Faults.{first_after}
use Rattle.gql_text.specs.Owners.{value_faults}
use Rattle.gql_text.proofs.owner_values.+values.Given as goal

-- the first so far
abbrev pub invariant-check_entries-loop-entry : goal.invariant-check_entries-loop-entry
invariant-check_entries-loop-entry l = l.first ≡ first_after l.initial.first (flat_map (λ e. value_faults e.1) (take l.entry-index l.entries))

abbrev pub invariant-check_items-loop-item : goal.invariant-check_items-loop-item
invariant-check_items-loop-item l = l.first ≡ first_after l.initial.first (flat_map value_faults (take l.item-index l.items))
