use Rattle.std.proofs.Common.{arith, ◌≡◌, Bool, true, false, ◌&&◌, refl, ap₂}
use Rattle.gql_registry_meta.proofs.Merging.{merged_age-commutes, merged_age-associates, merged_age-same, merged_age-unit}
use Rattle.gql_registry_meta.proofs.cache_control.merge_laws.Goals as goal

and-associates : (a b c : Bool) → ((a && b) && c) ≡ (a && (b && c))
and-associates true b c = refl
and-associates false b c = refl

pub returns-clause-commutative : goal.returns-clause-commutative
returns-clause-commutative c = λ a b. grind (arith, merged_age-commutes a.max_age b.max_age)

pub returns-clause-associative : goal.returns-clause-associative
returns-clause-associative c = λ x y z.
    ap₂ (λ p t. record { public = p; max_age = t }) (and-associates x.public y.public z.public) (merged_age-associates x.max_age y.max_age z.max_age)

pub returns-clause-idempotent : goal.returns-clause-idempotent
returns-clause-idempotent c = λ a. grind (arith, merged_age-same a.max_age)

pub returns-clause-unit : goal.returns-clause-unit
returns-clause-unit c = λ a. grind (arith, merged_age-unit a.max_age)
