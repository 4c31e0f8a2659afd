use Rattle.std.proofs.Common.{◌≡◌, take}
use Rattle.std.specs.Prelude.{flat_map}
use Rattle.gql_text.specs.Faults.{first_after}
use Rattle.gql_text.specs.Owners.{input_faults}
use Rattle.gql_text.proofs.owner_members.check_each_input.Given as goal

-- the first so far
abbrev pub invariant-loop-input : goal.invariant-loop-input
invariant-loop-input l = l.first ≡ first_after l.initial.first (flat_map input_faults (take l.input-index l.inputs))
