use Rattle.std.proofs.Common.{◌≡◌, ◌++◌, map}
use Rattle.gql_sdl_text.proofs.members.lent.Given as goal

abbrev pub invariant-loop-value : goal.invariant-loop-value
invariant-loop-value g l = map (λ v. v.now) l.lent.items ++ l.value-iterator ≡ l.initial.value-iterator
