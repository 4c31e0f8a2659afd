use Rattle.std.proofs.Common.{◌≡◌, ◌++◌, string_bytes, map, take}
use Rattle.gql_registry_meta.specs.Views.{invocation_of}
use Rattle.gql_sdl_view.specs.Spelling.{uses_text}
use Rattle.gql_sdl_text.proofs.parts.push_uses.Given as goal

abbrev pub invariant-loop-invocation : goal.invariant-loop-invocation
invariant-loop-invocation l = string_bytes l.out ≡ string_bytes l.initial.out ++ uses_text (map invocation_of (take l.invocation-index l.uses))
