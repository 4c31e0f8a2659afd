use Rattle.std.proofs.Common.{◌≡◌, take}
use Rattle.std.specs.Prelude.{flat_map}
use Rattle.gql_text.specs.Faults.{first_after}
use Rattle.std.specs.Option.{option_copied}
use Rattle.gql_text.specs.Owners.{definition_faults}
use Rattle.gql_text.proofs.owner_document.check_each_definition.Given as goal

-- the first so far
abbrev pub invariant-loop-definition : goal.invariant-loop-definition
invariant-loop-definition l = l.first ≡ first_after l.initial.first (flat_map (definition_faults (option_copied l.root)) (take l.definition-index l.definitions))
