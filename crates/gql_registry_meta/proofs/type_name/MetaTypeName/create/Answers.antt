use Rattle.std.proofs.Common.{◌∙◌}
use Rattle.gql_registry_meta.proofs.Printed.{outer_printed}
use Rattle.gql_registry_meta.proofs.type_name.MetaTypeName.create.Goals as goal

pub returns-clause-printed : goal.returns-clause-printed
returns-clause-printed c = λ ty h. c.level_of.ensures.level ∙ outer_printed c.args.type_name.now ty h
