use Rattle.std.proofs.Common.{◌≡◌, map}
use Rattle.std.specs.List.{list_any}
use Rattle.gql_registry_meta.specs.Parts.{EnumValue, is_deprecated}
use Rattle.gql_registry_meta.specs.Views.{enum_value_of}
use Rattle.gql_sdl.proofs.needs.has_deprecated_value.Given as goal

-- one of those that are left is deprecated where one of all is
abbrev pub invariant-loop-value : goal.invariant-loop-value
invariant-loop-value l =
    list_any (λ (part : EnumValue). is_deprecated part.deprecation) (map enum_value_of l.value-iterator)
    ≡ list_any (λ (part : EnumValue). is_deprecated part.deprecation) (map enum_value_of l.initial.value-iterator)
