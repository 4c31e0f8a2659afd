use Rattle.gql_sdl.specs.Values.{options_of}
use Rattle.gql_publish_load.proofs.Loaded.{clean_document, read_refused, read_only}
use Rattle.gql_publish_load.proofs.Canonicals.{published_there, refused_there, exactly_there}
use Rattle.gql_publish_load.proofs.canonical.canonical_sdl.Goals as goal

pub document_text-requires : goal.document_text-requires
document_text-requires c = clean_document c.args.bytes.now c.in-Ok.document c.in-Ok.ensures.found

pub returns-in-Ok-clause-published : goal.returns-in-Ok-clause-published
returns-in-Ok-clause-published c =
    published_there c.canonical_laws.ensures.read_back c.canonical_laws.ensures.one_view (options_of c.args.options) c.args.bytes.now c.in-Ok.document c.in-Ok.ensures.found c.document_text.result c.document_text.ensures.valid c.document_text.ensures.text

pub returns-in-Ok-clause-refused : goal.returns-in-Ok-clause-refused
returns-in-Ok-clause-refused c = refused_there c.args.bytes.now c.in-Ok.document c.in-Ok.ensures.found c.document_text.result c.document_text.ensures.refused

pub returns-in-Ok-clause-exactly : goal.returns-in-Ok-clause-exactly
returns-in-Ok-clause-exactly c =
    exactly_there c.canonical_laws.ensures.read_back c.canonical_laws.ensures.one_view (options_of c.args.options) c.args.bytes.now c.in-Ok.document c.in-Ok.ensures.found c.document_text.result c.document_text.ensures.valid c.document_text.ensures.text c.document_text.ensures.refused

pub returns-in-Err-clause-refused : goal.returns-in-Err-clause-refused
returns-in-Err-clause-refused c = read_refused c.args.bytes.now c.in-Err.error c.from.result c.in-Err.ensures.fault c.from.ensures

pub returns-in-Err-clause-exactly : goal.returns-in-Err-clause-exactly
returns-in-Err-clause-exactly c = read_only c.args.bytes.now c.in-Err.error c.from.result c.in-Err.ensures.fault c.from.ensures
