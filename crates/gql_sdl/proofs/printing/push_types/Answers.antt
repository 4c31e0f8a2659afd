use Rattle.std.proofs.Common.{◌++◌, ◌+◌, map, drop, ap, sym, ◌∙◌, None, string_bytes, append_assoc}
use Rattle.gql_registry_meta.specs.Parts.{Text}
use Rattle.gql_registry_meta.specs.Views.{texts_of, texts_in, meta_of}
use Rattle.gql_sdl_view.specs.Spelling.{type_text, types_text, first_list}
use Rattle.gql_sdl_text.specs.Views.{layout_view}
use Rattle.gql_sdl.proofs.Laws.{whole_type_text}
use Rattle.gql_sdl.proofs.Texts.{types_text-drop}
use Rattle.gql_sdl.proofs.printing.push_types.Goals as goal

pub loop-index-preserved : goal.loop-index-preserved
loop-index-preserved g c =
    let layout = layout_view c.args.layout.now in
    let types = c.deref-ty-items.result.now in
    let lists = map texts_of c.args.view.now.implements.items in
    let i = c.loop-index.index in
    let rest = types_text layout (map meta_of (drop (i + 1) types)) (drop (i + 1) lists) in
    let before : Text = string_bytes c.loop-index.out in
    ap (λ (t : Text). t ++ rest)
    (c.in_ok-push_type.ensures None
    ∙ ap (λ (t : Text). before ++ t) (whole_type_text layout _ None (meta_of c.ty-item.result)
    ∙ ap (λ names. type_text layout names (meta_of c.ty-item.result)) (ap texts_in c.as_slice.ensures.value ∙ c.in_ok-names.ensures)
    ∙ ap (λ ty. type_text layout (first_list (drop i lists)) (meta_of ty)) c.ty-item.is))
    ∙ append_assoc before _ rest
    ∙ ap (λ (t : Text). before ++ t) (sym (types_text-drop meta_of layout types lists i c.ty-item.result c.loop-index-test.true))
    ∙ c.loop-index.invariant
