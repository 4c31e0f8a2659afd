use Rattle.std.proofs.Common.{◌≡◌, take}
use Rattle.std.specs.Prelude.{flat_map}
use Rattle.gql_text.specs.Faults.{first_after}
use Rattle.gql_text.specs.Owners.{enum_value_faults}
use Rattle.gql_text.proofs.owner_members.check_each_enum_value.Given as goal

-- the first so far
abbrev pub invariant-loop-value : goal.invariant-loop-value
invariant-loop-value l = l.first ≡ first_after l.initial.first (flat_map enum_value_faults (take l.value-index l.values))
