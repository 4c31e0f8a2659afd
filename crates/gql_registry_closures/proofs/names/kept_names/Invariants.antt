use Rattle.std.proofs.Common.{◌≡◌, ◌||◌, map, filter}
use Rattle.gql_registry_meta.specs.Parts.{Text, is_among}
use Rattle.gql_registry_meta.specs.Views.{text_of}
use Rattle.gql_registry_closures.specs.Answers.{set_names}
use Rattle.gql_registry_closures.specs.Walk.{is_name_kept}
use Rattle.gql_registry_closures.proofs.names.kept_names.Given as goal

-- the names so far, with those of what is left
abbrev pub invariant-loop-name : goal.invariant-loop-name
invariant-loop-name g l = (other : Text) →
    (is_among other (set_names l.names) || is_among other (filter (is_name_kept l.numbers l.marks) (map text_of l.name-iterator)))
    ≡ is_among other (filter (is_name_kept l.numbers l.marks) (map text_of l.initial.name-iterator))
