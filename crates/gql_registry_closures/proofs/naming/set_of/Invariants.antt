use Rattle.std.proofs.Common.{◌≡◌, take}
use Rattle.gql_registry_meta.specs.Parts.{Text, is_among}
use Rattle.gql_registry_meta.specs.Views.{texts_in}
use Rattle.gql_registry_closures.specs.Answers.{set_names}
use Rattle.gql_registry_closures.proofs.naming.set_of.Given as goal

-- the texts so far
abbrev pub invariant-loop-text : goal.invariant-loop-text
invariant-loop-text l = (text : Text) → is_among text (set_names l.set) ≡ is_among text (texts_in (take l.text-index l.texts))
