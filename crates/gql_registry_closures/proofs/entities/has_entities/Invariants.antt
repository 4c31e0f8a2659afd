use Rattle.std.proofs.Common.{◌≡◌, map}
use Rattle.std.specs.List.{list_any}
use Rattle.gql_registry_meta.specs.Views.{meta_of}
use Rattle.gql_registry_closures.specs.Entities.{is_entity}
use Rattle.gql_registry_closures.proofs.entities.has_entities.Given as goal

-- what is left has an entity exactly where all have one
abbrev pub invariant-loop-ty : goal.invariant-loop-ty
invariant-loop-ty g l =
    list_any (λ x. is_entity (meta_of x)) l.ty-iterator ≡ list_any (λ x. is_entity (meta_of x)) l.initial.ty-iterator
