use Rattle.std.proofs.Common.{◌≡◌}
use Rattle.std.specs.Str.{bytes_eq}
use Rattle.indexmap.specs.IndexMap.{insert_all}
use Rattle.gql_registry_meta.specs.Views.{entries_of, field_of}
use Rattle.gql_sdl.specs.Values.{options_of}
use Rattle.gql_sdl.specs.Taken.{taken_fields}
use Rattle.gql_sdl.proofs.members.taken_fields.Given as goal

-- what is made so far, with what is left put in each in turn, is all
abbrev pub invariant-loop-key : goal.invariant-loop-key
invariant-loop-key l =
    insert_all bytes_eq (entries_of field_of l.made.entries) (taken_fields (options_of l.options) (entries_of field_of l.key-iterator))
    ≡ taken_fields (options_of l.options) (entries_of field_of l.fn.fields.entries)
