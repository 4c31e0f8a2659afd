use Rattle.std.proofs.Common.{◌≡◌, ◌++◌, map}
use Rattle.gql_publish_load.proofs.canonical.lent.Given as goal

-- those that are lent, and those that are left
abbrev pub invariant-loop-ty : goal.invariant-loop-ty
invariant-loop-ty g l = map (λ ty. ty.now) l.lent.items ++ l.ty-iterator ≡ l.initial.ty-iterator
