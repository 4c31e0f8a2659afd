use Rattle.std.proofs.Common.{◌≡◌, ◌++◌, map, string_bytes}
use Rattle.gql_registry_meta.specs.Views.{meta_of}
use Rattle.gql_registry.specs.Registry.{registry_of}
use Rattle.gql_sdl_text.specs.Views.{layout_view, choice_view}
use Rattle.gql_sdl.specs.Registered.{shown_text}
use Rattle.gql_sdl.proofs.printing.push_shown_types.Given as goal

-- what is written, and the text of the types that are left
abbrev pub invariant-loop-ty : goal.invariant-loop-ty
invariant-loop-ty g l =
    string_bytes l.out ++ shown_text (layout_view l.layout) (choice_view l.choice) (registry_of l.registry) (map meta_of l.ty-iterator)
    ≡ string_bytes l.initial.out ++ shown_text (layout_view l.layout) (choice_view l.choice) (registry_of l.registry) (map meta_of l.initial.ty-iterator)
