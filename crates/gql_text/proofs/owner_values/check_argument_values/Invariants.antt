use Rattle.std.proofs.Common.{◌≡◌, take}
use Rattle.std.specs.Prelude.{flat_map}
use Rattle.gql_text.specs.Faults.{first_after}
use Rattle.gql_text.specs.Owners.{value_faults}
use Rattle.gql_text.proofs.owner_values.check_argument_values.Given as goal

-- the first so far
abbrev pub invariant-loop-argument : goal.invariant-loop-argument
invariant-loop-argument l = l.first ≡ first_after l.initial.first (flat_map (λ a. value_faults a.value) (take l.argument-index l.arguments))
