use Rattle.std.proofs.Common.{◌∙◌}
use Rattle.gql_dynamic.specs.SchemaViews.{type_parts}
use Rattle.gql_check_code.proofs.SameKinds.{is_input-same}
use Rattle.gql_check_code.proofs.kinds.is_input.Goals as goal

pub returns : goal.returns
returns g c = c.is_input_type.ensures ∙ is_input-same (type_parts c.args.ty.now)
