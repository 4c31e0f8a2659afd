use Rattle.gql_publish_load.proofs.Loaded.{clean_document, only_there, valid_there, read_refused, read_only}
use Rattle.gql_publish_load.proofs.loading.load.Goals as goal

pub load_document-requires : goal.load_document-requires
load_document-requires g c = clean_document c.args.bytes.now c.in-Ok.document c.in-Ok.ensures.found

pub returns-in-Ok-clause-valid : goal.returns-in-Ok-clause-valid
returns-in-Ok-clause-valid g c = valid_there c.args.bytes.now c.in-Ok.document c.in-Ok.ensures.found c.load_document.result c.load_document.ensures.valid c.load_document.ensures.recorded

pub returns-in-Ok-clause-only : goal.returns-in-Ok-clause-only
returns-in-Ok-clause-only g c =
    only_there c.args.bytes.now c.in-Ok.document c.in-Ok.ensures.found c.load_document.result c.load_document.ensures.valid c.load_document.ensures.recorded c.load_document.ensures.refused

pub returns-in-Err-clause-refused : goal.returns-in-Err-clause-refused
returns-in-Err-clause-refused g c = read_refused c.args.bytes.now c.in-Err.error c.from.result c.in-Err.ensures.fault c.from.ensures

pub returns-in-Err-clause-only : goal.returns-in-Err-clause-only
returns-in-Err-clause-only g c = read_only c.args.bytes.now c.in-Err.error c.from.result c.in-Err.ensures.fault c.from.ensures
