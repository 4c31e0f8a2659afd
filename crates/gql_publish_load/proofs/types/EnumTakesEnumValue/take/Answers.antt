use Rattle.std.proofs.Common.{arith}
use Rattle.gql_text.specs.DocumentOf.{enum_value_of}
use Rattle.gql_dynamic_types.specs.TypeViews.{enum_parts}
use Rattle.gql_publish_document.specs.Members.{value_parts}
use Rattle.gql_publish_load.proofs.Taken.{goes_last}
use Rattle.gql_publish_load.proofs.types.EnumTakesEnumValue.take.Goals as goal

pub returns : goal.returns
returns c =
    let e = goes_last (enum_parts c.args.self).items c.args.source.now.key.name (value_parts (enum_value_of c.args.source.now)) c.requires.new in
    grind arith
