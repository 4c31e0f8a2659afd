use Rattle.std.proofs.Common.{◌≡◌, ◌++◌, map}
use Rattle.gql_registry_meta.specs.Views.{text_of, texts_in}
use Rattle.gql_sdl_text.proofs.members.lent_names.Given as goal

abbrev pub invariant-loop-name : goal.invariant-loop-name
invariant-loop-name l = texts_in l.lent.items ++ map text_of l.name-iterator ≡ map text_of l.initial.name-iterator
