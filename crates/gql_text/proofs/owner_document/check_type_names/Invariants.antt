use Rattle.std.proofs.Common.{◌≡◌, drop}
use Rattle.std.specs.List.{filter_map}
use Rattle.gql_text.specs.Faults.{first_after}
use Rattle.gql_text.specs.Owners.{type_key, duplicates, no_names}
use Rattle.gql_text.specs.Seen.{names_in}
use Rattle.gql_text.proofs.owner_document.check_type_names.Given as goal

-- what is left, given the names so far, has the first fault of all
abbrev pub invariant-loop-definition : goal.invariant-loop-definition
invariant-loop-definition l = first_after l.first (duplicates (names_in l.earlier) (filter_map (λ d. type_key d.kind) (drop l.definition-index l.definitions)))
    ≡ first_after l.initial.first (duplicates no_names (filter_map (λ d. type_key d.kind) l.definitions))
