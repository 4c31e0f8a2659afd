use Rattle.std.proofs.Common.{◌≡◌, ◌++◌, map}
use Rattle.gql_registry_meta.specs.Views.{meta_of}
use Rattle.gql_registry_meta.specs.Kinds.{visible_of}
use Rattle.gql_registry_closures.proofs.table.rules_of.Given as goal

-- the rules so far, with those of what is left
abbrev pub invariant-loop-ty : goal.invariant-loop-ty
invariant-loop-ty g l =
    l.rules.items ++ map (λ x. visible_of (meta_of x)) l.ty-iterator
    ≡ map (λ x. visible_of (meta_of x)) l.initial.ty-iterator
