use Rattle.std.proofs.Common.{arith}
use Rattle.gql_text.specs.DocumentOf.{input_of}
use Rattle.gql_registry_meta.specs.Views.{inputs_in}
use Rattle.gql_publish_document.specs.Members.{input_meta_of}
use Rattle.gql_publish_load.proofs.Taken.{goes_last}
use Rattle.gql_publish_load.proofs.directives.IndexMapStringMetaInputValueTakesWrittenInput.take.Goals as goal

pub returns : goal.returns
returns c =
    let e = goes_last (inputs_in c.args.self) c.args.source.now.key.name (input_meta_of (input_of c.args.source.now)) c.requires.new in
    grind arith
