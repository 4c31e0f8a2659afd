use Rattle.std.proofs.Common.{◌≡◌}
use Rattle.std.specs.Str.{bytes_eq}
use Rattle.indexmap.specs.IndexMap.{insert_all}
use Rattle.gql_registry_meta.specs.Views.{entries_of, input_value_of}
use Rattle.gql_sdl_view.specs.Ordered.{changed}
use Rattle.gql_sdl_view.specs.View.{viewed_input_value}
use Rattle.gql_sdl.proofs.members.viewed_input_values.Given as goal

-- what is made so far, with what is left put in each in turn, is all
abbrev pub invariant-loop-key : goal.invariant-loop-key
invariant-loop-key l =
    insert_all bytes_eq (entries_of input_value_of l.made.entries) (changed viewed_input_value (entries_of input_value_of l.key-iterator))
    ≡ changed viewed_input_value (entries_of input_value_of l.fn.values.entries)
