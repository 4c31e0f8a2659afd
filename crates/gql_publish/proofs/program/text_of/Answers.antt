use Rattle.std.specs.Prelude.{string_bytes}
use Rattle.gql_sdl.specs.Values.{options_of}
use Rattle.gql_publish.proofs.Explained.{explained}
use Rattle.gql_publish.proofs.Tellings.{text_is}
use Rattle.gql_publish.proofs.program.text_of.Goals as goal

pub returns-in-Ok-clause-text : goal.returns-in-Ok-clause-text
returns-in-Ok-clause-text c = text_is (options_of c.args.options) c.args.bytes.now (string_bytes c.in-Ok.text) c.in-Ok.ensures.published

pub returns-in-Err-clause-refused : goal.returns-in-Err-clause-refused
returns-in-Err-clause-refused c = explained c.args.bytes.now c.in-Err.error c.trouble_of.result c.in-Err.ensures.refused c.trouble_of.ensures
