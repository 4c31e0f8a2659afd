use Rattle.gql_text.specs.Owners.{owner_faults}
use Rattle.gql_text.proofs.Least.{first_of_all}
use Rattle.gql_text.proofs.owner_document.first_owner_fault.Goals as goal

pub returns : goal.returns
returns c = first_of_all (owner_faults c.args.definitions.now) c.check_document.new.first c.in_ok-check_document.ensures
