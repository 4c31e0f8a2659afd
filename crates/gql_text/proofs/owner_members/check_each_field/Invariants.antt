use Rattle.std.proofs.Common.{◌≡◌, take}
use Rattle.std.specs.Prelude.{flat_map}
use Rattle.gql_text.specs.Faults.{first_after}
use Rattle.gql_text.specs.Owners.{field_faults}
use Rattle.gql_text.proofs.owner_members.check_each_field.Given as goal

-- the first so far
abbrev pub invariant-loop-field : goal.invariant-loop-field
invariant-loop-field l = l.first ≡ first_after l.initial.first (flat_map field_faults (take l.field-index l.fields))
