use Rattle.std.proofs.Common.{◌≡◌, ◌++◌, map, take, drop}
use Rattle.std.specs.List.{AllByRecursion}
use Rattle.gql_publish_load.specs.Taking.{AreNew}
use Rattle.gql_publish_load.proofs.taking.take_all.Given as goal

-- what was taken so far; what is left is new and clean
abbrev pub invariant-loop-source : goal.invariant-loop-source
invariant-loop-source g l = record {
  taken : g.B.Takes.parts l.full ≡ g.B.Takes.with_items (g.B.Takes.parts l.fn.builder) (g.B.Takes.items (g.B.Takes.parts l.fn.builder) ++ map g.B.Takes.item (take l.source-index l.sources));
  new : AreNew g.B.Takes.is_new (g.B.Takes.items (g.B.Takes.parts l.full)) (map g.B.Takes.item (drop l.source-index l.sources));
  clean : AllByRecursion g.B.Takes.is_clean (drop l.source-index l.sources);
}
