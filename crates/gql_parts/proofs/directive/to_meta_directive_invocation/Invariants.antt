use Rattle.std.proofs.Common.{◌≡◌, ◌++◌, map}
use Rattle.std.specs.Vec.Iter.{into_iter_items}
use Rattle.gql_registry_meta.specs.Views.{invocations_of}
use Rattle.gql_parts.specs.BuilderViews.{directive_use}
use Rattle.gql_parts.proofs.directive.to_meta_directive_invocation.Given as goal

-- the uses so far with those that are left are all
abbrev pub invariant-loop-directive : goal.invariant-loop-directive
invariant-loop-directive l =
    invocations_of l.invocations ++ map directive_use (into_iter_items l.directive-iterator)
    ≡ map directive_use (into_iter_items l.initial.directive-iterator)
