use Rattle.std.proofs.Common.{◌≡◌, map}
use Rattle.gql_registry_meta.specs.Views.{meta_of}
use Rattle.gql_sdl.specs.Needs.{needs_of, joined}
use Rattle.gql_sdl.proofs.needs.Needs.of.Given as goal

-- what is needed so far, with what the types that are left need
abbrev pub invariant-loop-ty : goal.invariant-loop-ty
invariant-loop-ty g l = joined l.needs (needs_of (map meta_of l.ty-iterator)) ≡ needs_of (map meta_of l.initial.ty-iterator)
