use Rattle.std.proofs.Common.{◌≡◌, drop}
use Rattle.std.specs.List.{filter_map}
use Rattle.gql_text.specs.Faults.{first_after}
use Rattle.gql_text.specs.Owners.{attribute_key, duplicates, no_names}
use Rattle.gql_text.specs.Seen.{names_in}
use Rattle.gql_text.proofs.owner_uses.check_attributes.Given as goal

-- what is left, given the names so far, has the first fault of all
abbrev pub invariant-loop-one : goal.invariant-loop-one
invariant-loop-one l = first_after l.first (duplicates (names_in l.earlier) (filter_map attribute_key (drop l.one-index l.uses)))
    ≡ first_after l.initial.first (duplicates no_names (filter_map attribute_key l.uses))
