use Rattle.std.proofs.Common.{◌≡◌, ◌++◌, string_bytes, flat_map, take}
use Rattle.gql_registry_meta.specs.Views.{texts_in}
use Rattle.gql_sdl_text.proofs.parts.push_names_after.Given as goal

abbrev pub invariant-loop-name : goal.invariant-loop-name
invariant-loop-name l = string_bytes l.out ≡ string_bytes l.initial.out ++ flat_map (λ name. l.separator ++ name) (texts_in (take l.name-index l.names))
