use Rattle.std.proofs.Common.{arith}
use Rattle.gql_publish_load.proofs.Taken.{found_more}
use Rattle.gql_publish_document.specs.Types.{location_named}
use Rattle.gql_publish_load.proofs.directives.locations.Goals as goal

pub loop-word-preserved : goal.loop-word-preserved
loop-word-preserved c =
    let e = found_more location_named c.args.words.now c.loop-word.word-index c.word-item.result c.loop-word-test.true c.word-item.is in
    grind arith
