use Rattle.std.proofs.Common.{◌∙◌}
use Rattle.gql_registry_meta.proofs.Names.{names_have_text}
use Rattle.gql_check_code.proofs.names.is_among.Goals as goal

pub returns : goal.returns
returns c = c.contains.ensures ∙ names_have_text c.args.name.now c.args.names.now.keys
