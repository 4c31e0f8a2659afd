use Rattle.std.proofs.Common.{◌≡◌, map, take}
use Rattle.gql_text.proofs.conversion.each.Given as goal

-- what was found so far
abbrev pub invariant-loop-item : goal.invariant-loop-item
invariant-loop-item g l = l.found ≡ map g.T.Becomes.becomes (take l.item-index l.items)
