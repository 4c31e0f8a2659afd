use Rattle.std.proofs.Common.{◌≡◌, drop, map}
use Rattle.gql_text_values.specs.SameValue.{plain, values_of, entries_of, same_values, same_entries}
use Rattle.gql_text_values.proofs.const_value.+same.Given as goal

abbrev pub invariant-same_items-loop-item : goal.invariant-same_items-loop-item
invariant-same_items-loop-item l =
    same_values (values_of (map plain l.items)) (values_of (map plain l.others))
    ≡ same_values (values_of (map plain (drop l.item-index l.items))) (values_of (map plain l.rest))

abbrev pub invariant-same_entries-loop-entry : goal.invariant-same_entries-loop-entry
invariant-same_entries-loop-entry l =
    same_entries (entries_of (map (λ e. (e.0, plain e.1)) l.entries)) (entries_of (map (λ e. (e.0, plain e.1)) l.others))
    ≡ same_entries (entries_of (map (λ e. (e.0, plain e.1)) (drop l.entry-index l.entries))) (entries_of (map (λ e. (e.0, plain e.1)) l.rest))
