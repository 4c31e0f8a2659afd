use Rattle.std.proofs.Common.{◌∙◌, sym}
use Rattle.gql_text.specs.Owners.{one_of}
use Rattle.gql_publish_load.proofs.FoundUses.{any_use}
use Rattle.gql_publish_load.proofs.attributes.has_one_of.Goals as goal

pub returns : goal.returns
returns c = c.has_use.ensures ∙ sym (any_use one_of c.args.uses.now)
