use Rattle.std.proofs.Common.{◌≡◌, Option, map, drop}
use Rattle.gql_registry_meta.specs.Parts.{Text}
use Rattle.gql_dynamic.specs.SchemaViews.{type_parts}
use Rattle.gql_sdl.specs.Writing.{written_by}
use Rattle.gql_publish_load.specs.Canonical.{with_types}
use Rattle.gql_publish_load.proofs.canonical.push_types.Given as goal

-- what is written, with the types that are left, is all
abbrev pub invariant-loop-ty : goal.invariant-loop-ty
invariant-loop-ty g l =
    (subscription : Option Text) → with_types subscription (written_by l.writer) (map (λ ty. type_parts ty.now) (drop l.ty-index l.types))
    ≡ with_types subscription (written_by l.initial.writer) (map (λ ty. type_parts ty.now) l.types)
