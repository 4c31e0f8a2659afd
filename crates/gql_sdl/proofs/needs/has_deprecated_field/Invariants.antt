use Rattle.std.proofs.Common.{◌≡◌, map}
use Rattle.std.specs.List.{list_any}
use Rattle.gql_registry_meta.specs.Parts.{Field, is_deprecated}
use Rattle.gql_registry_meta.specs.Views.{field_of}
use Rattle.gql_sdl.proofs.needs.has_deprecated_field.Given as goal

-- one of those that are left is deprecated where one of all is
abbrev pub invariant-loop-field : goal.invariant-loop-field
invariant-loop-field l =
    list_any (λ (part : Field). is_deprecated part.deprecation) (map field_of l.field-iterator)
    ≡ list_any (λ (part : Field). is_deprecated part.deprecation) (map field_of l.initial.field-iterator)
