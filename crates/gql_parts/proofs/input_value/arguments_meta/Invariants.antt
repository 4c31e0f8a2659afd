use Rattle.std.proofs.Common.{◌≡◌, []}
use Rattle.std.specs.Str.{bytes_eq}
use Rattle.indexmap.specs.IndexMap.{insert_all}
use Rattle.gql_registry_meta.specs.Views.{entries_of, input_value_of}
use Rattle.gql_parts.specs.Builders.{input_value_meta}
use Rattle.gql_parts.specs.BuilderViews.{input_value_parts}
use Rattle.gql_parts.proofs.input_value.arguments_meta.Given as goal

-- the arguments so far with those that are left, each in turn, are those of all
abbrev pub invariant-loop-name : goal.invariant-loop-name
invariant-loop-name l =
    insert_all bytes_eq (entries_of input_value_of l.args.entries) (entries_of (λ a. input_value_meta (input_value_parts a)) l.name-iterator)
    ≡ insert_all bytes_eq [] (entries_of (λ a. input_value_meta (input_value_parts a)) l.arguments.entries)
