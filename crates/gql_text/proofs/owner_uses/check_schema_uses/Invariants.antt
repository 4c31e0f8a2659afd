use Rattle.std.proofs.Common.{◌≡◌, take}
use Rattle.std.specs.Prelude.{flat_map}
use Rattle.gql_text.specs.Faults.{first_after}
use Rattle.gql_text.specs.Owners.{schema_use_faults}
use Rattle.gql_text.proofs.owner_uses.check_schema_uses.Given as goal

-- the first so far
abbrev pub invariant-loop-one : goal.invariant-loop-one
invariant-loop-one l = l.first ≡ first_after l.initial.first (flat_map schema_use_faults (take l.one-index l.uses))
