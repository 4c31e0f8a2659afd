use Rattle.std.proofs.Common.{◌∙◌}
use Rattle.gql_dynamic.specs.SchemaViews.{type_parts}
use Rattle.gql_check_code.proofs.SameKinds.{is_output-same}
use Rattle.gql_check_code.proofs.kinds.is_output.Goals as goal

pub returns : goal.returns
returns g c = c.is_output_type.ensures ∙ is_output-same (type_parts c.args.ty.now)
