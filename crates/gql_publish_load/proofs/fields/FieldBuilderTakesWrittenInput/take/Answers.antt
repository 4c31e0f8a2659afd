use Rattle.std.proofs.Common.{arith}
use Rattle.gql_text.specs.DocumentOf.{input_of}
use Rattle.gql_parts.specs.BuilderViews.{field_parts}
use Rattle.gql_publish_document.specs.Members.{input_parts}
use Rattle.gql_publish_load.proofs.Taken.{goes_last}
use Rattle.gql_publish_load.proofs.fields.FieldBuilderTakesWrittenInput.take.Goals as goal

pub returns : goal.returns
returns g c =
    let e = goes_last (field_parts c.args.self).arguments c.args.source.now.key.name (input_parts (input_of c.args.source.now)) c.requires.new in
    grind arith
