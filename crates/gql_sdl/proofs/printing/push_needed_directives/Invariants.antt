use Rattle.std.proofs.Common.{◌≡◌, ◌++◌, List, map, string_bytes}
use Rattle.gql_registry_meta.specs.Parts.{Meta}
use Rattle.gql_registry_meta.specs.Views.{directive_of}
use Rattle.gql_sdl.specs.Needs.{needs_of}
use Rattle.gql_sdl.specs.Registered.{needed_text}
use Rattle.gql_sdl_text.specs.Views.{layout_view}
use Rattle.gql_sdl.proofs.printing.push_needed_directives.Given as goal

-- what is written, and the text of the definitions that are left
abbrev pub invariant-loop-directive : goal.invariant-loop-directive
invariant-loop-directive g l =
    (types : List Meta) → l.needs ≡ needs_of types →
    string_bytes l.out ++ needed_text (layout_view l.layout) types (map directive_of l.directive-iterator)
    ≡ string_bytes l.initial.out ++ needed_text (layout_view l.layout) types (map directive_of l.initial.directive-iterator)
