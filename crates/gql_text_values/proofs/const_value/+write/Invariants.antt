use Rattle.std.proofs.Common.{◌≡◌, ◌++◌, codes, string_bytes, take}
use Rattle.std.specs.List.{flat_map}
use Rattle.gql_text_values.specs.ConstValues.{entry_text, value_text}
use Rattle.gql_text_values.proofs.const_value.+write.Given as goal

abbrev pub invariant-write_entries-loop-entry : goal.invariant-write_entries-loop-entry
invariant-write_entries-loop-entry l =
    string_bytes l.out ≡ string_bytes l.initial.out ++ flat_map (λ e. codes ", " ++ entry_text (e.0, value_text e.1)) (take l.entry-index l.more)

abbrev pub invariant-write_items-loop-item : goal.invariant-write_items-loop-item
invariant-write_items-loop-item l =
    string_bytes l.out ≡ string_bytes l.initial.out ++ flat_map (λ v. codes ", " ++ value_text v) (take l.item-index l.more)
