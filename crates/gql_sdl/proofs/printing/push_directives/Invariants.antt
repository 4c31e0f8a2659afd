use Rattle.std.proofs.Common.{◌≡◌, ◌++◌, drop, string_bytes}
use Rattle.std.specs.List.{flat_map}
use Rattle.gql_registry_meta.specs.Views.{directive_of}
use Rattle.gql_sdl_text.specs.Views.{layout_view}
use Rattle.gql_sdl.specs.Registered.{definition_text}
use Rattle.gql_sdl.proofs.printing.push_directives.Given as goal

-- what is written, and the text of the definitions that are left
abbrev pub invariant-loop-directive : goal.invariant-loop-directive
invariant-loop-directive g l =
    string_bytes l.out ++ flat_map (λ d. definition_text (layout_view l.layout) (directive_of d)) (drop l.directive-index l.directive-items)
    ≡ string_bytes l.initial.out ++ flat_map (λ d. definition_text (layout_view l.layout) (directive_of d)) l.directive-items
