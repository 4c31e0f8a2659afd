use Rattle.gql_text.proofs.Names.{entered}
use Rattle.gql_text.proofs.owner_names.enter.Goals as goal

pub returns-clause-names : goal.returns-clause-names
returns-clause-names c = entered c.args.name.now c.args.names.now c.insert.new.self c.in_ok-is_new.ensures.updates
