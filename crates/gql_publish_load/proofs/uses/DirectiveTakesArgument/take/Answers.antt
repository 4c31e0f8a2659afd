use Rattle.std.proofs.Common.{arith}
use Rattle.gql_text.specs.DocumentOf.{const_value_of}
use Rattle.gql_parts.specs.BuilderViews.{directive_use}
use Rattle.gql_publish_load.proofs.Taken.{goes_last}
use Rattle.gql_publish_load.proofs.uses.DirectiveTakesArgument.take.Goals as goal

pub returns : goal.returns
returns c =
    let e = goes_last (directive_use c.args.self).args c.args.source.now.key.name (const_value_of c.args.source.now.value) c.requires.new in
    grind arith
