use Rattle.std.proofs.Common.{◌≡◌, map, drop, take}
use Rattle.gql_text.specs.Faults.{first_after}
use Rattle.gql_text.specs.Owners.{duplicates, no_names}
use Rattle.gql_text.specs.Seen.{names_among}
use Rattle.gql_text.proofs.owner_names.check_few.Given as goal

-- what is left, given the names before it, has the first fault of all
abbrev pub invariant-loop-index : goal.invariant-loop-index
invariant-loop-index g l = first_after l.first (duplicates (names_among g.T.Keyed.key (take l.index l.items)) (map g.T.Keyed.key (drop l.index l.items)))
    ≡ first_after l.initial.first (duplicates no_names (map g.T.Keyed.key l.items))
