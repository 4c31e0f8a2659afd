use Rattle.std.proofs.Common.{map, drop, ap, sym, ◌∙◌}
use Rattle.std.proofs.lemmas.Result.{IfOk-weaker}
use Rattle.gql_registry_meta.specs.Views.{text_of, texts_of}
use Rattle.gql_sdl_view.specs.Spelling.{first_list}
use Rattle.gql_sdl.proofs.Texts.{first_list-drop}
use Rattle.gql_sdl.proofs.printing.names_at.Goals as goal

pub returns-in-Some : goal.returns-in-Some
returns-in-Some g c =
    let found = c.in-Some.ensures.lookup in
    IfOk-weaker c.lent_texts.result _ _ (λ lent same.
    same ∙ ap (map text_of) c.as_slice.ensures.value ∙ ap texts_of found.1
    ∙ sym (first_list-drop texts_of c.deref.result.now c.args.index c.in-Some.names.now found.3.0)
    ∙ ap (λ l. first_list (drop c.args.index (map texts_of l))) c.deref.ensures.value)
    c.lent_texts.ensures
