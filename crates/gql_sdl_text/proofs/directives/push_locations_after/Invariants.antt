use Rattle.std.proofs.Common.{◌≡◌, ◌++◌, string_bytes, flat_map, take}
use Rattle.gql_registry_meta.specs.Locations.{location_text}
use Rattle.gql_sdl_text.proofs.directives.push_locations_after.Given as goal

-- what is written so far
abbrev pub invariant-loop-location : goal.invariant-loop-location
invariant-loop-location l = string_bytes l.out ≡ string_bytes l.initial.out ++ flat_map (λ location. l.separator ++ location_text location) (take l.location-index l.locations)
