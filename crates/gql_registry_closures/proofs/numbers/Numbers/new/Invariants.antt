use Rattle.std.proofs.Common.{◌≡◌, map, fold}
use Rattle.std.specs.Str.{bytes_eq}
use Rattle.indexmap.specs.IndexSet.{insert_key}
use Rattle.gql_registry_meta.specs.Views.{text_of, texts_in}
use Rattle.gql_registry_closures.proofs.numbers.Numbers.new.Given as goal

-- the names so far, with those that are left inserted in turn
abbrev pub invariant-loop-name : goal.invariant-loop-name
invariant-loop-name g l =
    fold (insert_key bytes_eq) (texts_in l.names.keys) (map text_of l.name-iterator)
    ≡ fold (insert_key bytes_eq) (texts_in l.initial.names.keys) (map text_of l.initial.name-iterator)
