use Rattle.std.proofs.Common.{◌≡◌, map, drop}
use Rattle.gql_text.specs.Faults.{first_after}
use Rattle.gql_text.specs.Owners.{duplicates, no_names}
use Rattle.gql_text.specs.Seen.{names_in}
use Rattle.gql_text.proofs.owner_names.check_many.Given as goal

-- what is left, given the names so far, has the first fault of all
abbrev pub invariant-loop-item : goal.invariant-loop-item
invariant-loop-item g l = first_after l.first (duplicates (names_in l.earlier) (map g.T.Keyed.key (drop l.item-index l.items)))
    ≡ first_after l.initial.first (duplicates no_names (map g.T.Keyed.key l.items))
