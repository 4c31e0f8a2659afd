use Rattle.std.proofs.Common.{◌≡◌, take}
use Rattle.std.specs.List.{filter_map}
use Rattle.gql_publish_document.specs.Types.{location_named}
use Rattle.gql_publish_load.proofs.directives.locations.Given as goal

-- what was found so far
abbrev pub invariant-loop-word : goal.invariant-loop-word
invariant-loop-word l = l.found.items ≡ filter_map location_named (take l.word-index l.words)
