use Rattle.std.proofs.Common.{◌++◌, ◌∙◌, ap, sym, string_bytes}
use Rattle.gql_registry_meta.specs.Parts.{Text}
use Rattle.gql_sdl_text.proofs.Characters.{indented-char}
use Rattle.gql_sdl_text.proofs.descriptions.push_indented_char.Goals as goal

pub returns : goal.returns
returns c = c.in_ok-push.ensures.bytes ∙ ap (λ (l : Text). string_bytes c.args.out.now ++ l) (sym (indented-char c.args.indent.now c.args.c c.if-c-eq10.false))
