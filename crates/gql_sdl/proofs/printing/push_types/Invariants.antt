use Rattle.std.proofs.Common.{◌≡◌, ◌++◌, map, drop, string_bytes}
use Rattle.gql_registry_meta.specs.Views.{texts_of, meta_of}
use Rattle.gql_sdl_view.specs.Spelling.{types_text}
use Rattle.gql_sdl_text.specs.Views.{layout_view}
use Rattle.gql_sdl.proofs.printing.push_types.Given as goal

-- what is written, and the text of the types that are left
abbrev pub invariant-loop-index : goal.invariant-loop-index
invariant-loop-index g l =
    string_bytes l.out ++ types_text (layout_view l.layout) (map meta_of (drop l.index l.ty-items)) (drop l.index (map texts_of l.view.implements.items))
    ≡ string_bytes l.initial.out ++ types_text (layout_view l.layout) (map meta_of l.ty-items) (map texts_of l.view.implements.items)
