use Rattle.std.proofs.Common.{◌≡◌, ap}
use Rattle.gql_dynamic_types.specs.Types.{with_last}
use Rattle.gql_dynamic.specs.SchemaTypes.{type_name}
use Rattle.gql_dynamic.specs.SchemaViews.{type_parts}
use Rattle.gql_check_code.specs.Definitions.{SchemaParts}
use Rattle.gql_check_code.specs.CheckedViews.{schema_parts}
use Rattle.gql_check.proofs.Keys.{names_more, on_ok_both}
use Rattle.gql_check.proofs.builder.put_type.Goals as goal

pub returns-clause-different : goal.returns-clause-different
returns-clause-different g c =
    let before = schema_parts c.args.types.now in
    let after = schema_parts c.add_type.new.types in
    let type = type_parts c.args.ty in
    on_ok_both c.add_type.result
    (λ (e : after ≡ record before { types = with_last before.types (type_name type) type }) new.
    names_more before after (type_name type) type (ap (λ (parts : SchemaParts). parts.types) e) c.requires.different new)
    c.add_type.ensures.added c.add_type.ensures.new
