use Rattle.std.proofs.Common.{◌≡◌, map, take}
use Rattle.gql_registry_meta.specs.Views.{text_of, texts_in}
use Rattle.gql_sdl.proofs.printing.lent_texts.Given as goal

-- the texts so far
abbrev pub invariant-loop-text : goal.invariant-loop-text
invariant-loop-text l = texts_in l.lent.items ≡ map text_of (take l.text-index l.texts)
