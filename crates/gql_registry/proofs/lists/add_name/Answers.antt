use Rattle.gql_registry.proofs.Names.{added_once}
use Rattle.gql_registry.proofs.lists.add_name.Goals as goal

pub returns-clause-once : goal.returns-clause-once
returns-clause-once c = added_once c.args.names.now.keys c.insert.new.self.keys c.args.name c.in_ok-insert.ensures.keys c.in_ok-insert.ensures.unique
