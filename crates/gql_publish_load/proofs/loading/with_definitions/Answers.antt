use Rattle.std.proofs.Common.{sym, subst, map, drop, ◌+◌}
use Rattle.std.specs.Option.{option_copied}
use Rattle.gql_text.specs.DocumentOf.{definition_of}
use Rattle.gql_check.specs.Recorded.{Recorded}
use Rattle.gql_check.specs.Recordings.{recorded_of}
use Rattle.gql_publish_document.specs.Clean.{IsCleanDefinition}
use Rattle.gql_publish_load.specs.Loading.{AreNewTypes}
use Rattle.gql_publish_load.proofs.Recordings.{next_new, next_clean, recorded_more}
use Rattle.gql_publish_load.proofs.loading.with_definitions.Goals as goal

pub with_definition-requires-clause-new : goal.with_definition-requires-clause-new
with_definition-requires-clause-new g c =
    (next_new (option_copied c.args.subscription) (recorded_of c.loop-definition.full) c.args.definitions.now c.loop-definition.definition-index c.definition-item.result c.loop-definition-test.true c.definition-item.is c.loop-definition.invariant.new).0

pub with_definition-requires-clause-clean : goal.with_definition-requires-clause-clean
with_definition-requires-clause-clean g c =
    (next_clean IsCleanDefinition c.args.definitions.now c.loop-definition.definition-index c.definition-item.result c.loop-definition-test.true c.definition-item.is c.loop-definition.invariant.clean).0

pub loop-definition-preserved : goal.loop-definition-preserved
loop-definition-preserved g c =
    let ds = c.args.definitions.now in
    let i = c.loop-definition.definition-index in
    let d = c.definition-item.result in
    let root = option_copied c.args.subscription in
    let new = (next_new root (recorded_of c.loop-definition.full) ds i d c.loop-definition-test.true c.definition-item.is c.loop-definition.invariant.new).1 in
    record {
      recorded = recorded_more root (recorded_of c.args.builder) (recorded_of c.loop-definition.full) (recorded_of c.in_ok-full.full) ds i d c.loop-definition-test.true c.definition-item.is c.loop-definition.invariant.recorded c.in_ok-full.ensures;
      new = subst (λ (r : Recorded). AreNewTypes root r (map definition_of (drop (i + 1) ds))) (sym c.in_ok-full.ensures) new;
      clean = (next_clean IsCleanDefinition ds i d c.loop-definition-test.true c.definition-item.is c.loop-definition.invariant.clean).1;
    }
