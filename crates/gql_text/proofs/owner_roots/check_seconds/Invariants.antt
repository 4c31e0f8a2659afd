use Rattle.std.proofs.Common.{◌≡◌, false, drop}
use Rattle.gql_text.specs.Faults.{first_after}
use Rattle.gql_text.specs.Owners.{second_schemas}
use Rattle.gql_text.proofs.owner_roots.check_seconds.Given as goal

-- what is left has the first fault of all
abbrev pub invariant-loop-definition : goal.invariant-loop-definition
invariant-loop-definition l = first_after l.first (second_schemas l.before (drop l.definition-index l.definitions))
    ≡ first_after l.initial.first (second_schemas false l.definitions)
