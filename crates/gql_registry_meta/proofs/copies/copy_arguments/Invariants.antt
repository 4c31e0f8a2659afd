use Rattle.std.proofs.Common.{◌≡◌}
use Rattle.std.specs.Str.{bytes_eq}
use Rattle.indexmap.specs.IndexMap.{insert_all}
use Rattle.gql_registry_meta.specs.Views.{arguments_of}
use Rattle.gql_registry_meta.proofs.copies.copy_arguments.Given as goal

-- the arguments so far, with those that are left inserted in turn, are all arguments
abbrev pub invariant-loop-name : goal.invariant-loop-name
invariant-loop-name l = insert_all bytes_eq (arguments_of l.copy.entries) (arguments_of l.name-iterator) ≡ arguments_of l.fn.args.entries
