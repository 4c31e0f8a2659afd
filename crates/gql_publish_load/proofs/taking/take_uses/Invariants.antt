use Rattle.std.proofs.Common.{◌≡◌, ◌++◌, map, take, drop}
use Rattle.gql_text.specs.DocumentOf.{use_of}
use Rattle.gql_publish_document.specs.Uses.{invocations_in}
use Rattle.gql_publish_document.specs.Clean.{AreCleanUses}
use Rattle.gql_publish_load.proofs.taking.take_uses.Given as goal

-- what is used on it so far; what is left is clean
abbrev pub invariant-loop-use_ : goal.invariant-loop-use_
invariant-loop-use_ g l = record {
  taken : g.B.IsUsedOn.parts l.full ≡ g.B.IsUsedOn.with_uses (g.B.IsUsedOn.parts l.fn.builder) (g.B.IsUsedOn.uses (g.B.IsUsedOn.parts l.fn.builder) ++ invocations_in (map use_of (take l.use_-index l.uses)));
  clean : AreCleanUses (map use_of (drop l.use_-index l.uses));
}
