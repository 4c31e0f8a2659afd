use Rattle.std.proofs.Common.{arith}
use Rattle.std.specs.Option.{option_copied}
use Rattle.gql_text.specs.Owners.{definition_faults}
use Rattle.gql_text.proofs.First.{first_more}
use Rattle.gql_text.proofs.owner_document.check_each_definition.Goals as goal

pub loop-definition-preserved : goal.loop-definition-preserved
loop-definition-preserved c = grind (arith, first_more (definition_faults (option_copied c.args.root)) c.args.definitions.now c.loop-definition.definition-index c.definition-item.result c.args.first.now)
