use Rattle.std.proofs.Common.{◌≡◌}
use Rattle.std.specs.List.{list_any}
use Rattle.gql_check_rules.specs.Schema.{is_entity}
use Rattle.gql_check_code.specs.CheckedViews.{checked_definitions}
use Rattle.gql_check_code.proofs.objects.has_entity.Given as goal

-- some type that is left has a key where one of all has
abbrev pub invariant-loop-ty : goal.invariant-loop-ty
invariant-loop-ty g l =
    list_any (λ type. is_entity type.1) (checked_definitions l.ty-iterator)
    ≡ list_any (λ type. is_entity type.1) (checked_definitions l.initial.ty-iterator)
