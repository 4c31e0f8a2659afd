use Rattle.std.proofs.Common.{◌≡◌, ◌++◌, codes, string_bytes}
use Rattle.std.specs.List.{flat_map}
use Rattle.gql_registry_meta.specs.Invocations.{argument_text}
use Rattle.gql_registry_meta.specs.Views.{arguments_of}
use Rattle.gql_registry_meta.proofs.directive_invocation.push_arguments.Given as goal

-- what is written, and the text of the arguments that are left
abbrev pub invariant-loop-name : goal.invariant-loop-name
invariant-loop-name l =
    string_bytes l.out ++ flat_map (λ argument. codes ", " ++ argument_text argument) (arguments_of l.name-iterator)
    ≡ string_bytes l.initial.out ++ flat_map (λ argument. codes ", " ++ argument_text argument) (arguments_of l.initial.name-iterator)
