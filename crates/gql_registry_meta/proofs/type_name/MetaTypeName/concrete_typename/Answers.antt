use Rattle.std.proofs.Common.{ap, ◌∙◌}
use Rattle.gql_text_values.specs.TypeRefs.{innermost}
use Rattle.gql_registry_meta.proofs.Printed.{read_printed}
use Rattle.gql_registry_meta.proofs.type_name.MetaTypeName.concrete_typename.Goals as goal

pub returns-clause-printed : goal.returns-clause-printed
returns-clause-printed c = λ ty h. c.innermost_of.ensures ∙ ap innermost (read_printed c.args.type_name.now ty h)
