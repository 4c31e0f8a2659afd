use Rattle.std.proofs.Common.{refl}
use Rattle.gql_text.specs.Verdict.{NotUtf8}
use Rattle.gql_text.proofs.Judgements.{one_place}
use Rattle.gql_text.proofs.sdl.read_document.Goals as goal

pub returns-in-Err-clause-fault : goal.returns-in-Err-clause-fault
returns-in-Err-clause-fault c n = rw c.valid_up_to.ensures (NotUtf8 _ c.in-Err.ensures.cases.0 c.in-Err.ensures.cases.1 refl)

pub returns-in-Err-clause-not_utf8 : goal.returns-in-Err-clause-not_utf8
returns-in-Err-clause-not_utf8 c at u v n = rw c.valid_up_to.ensures (one_place c.args.bytes.now _ at c.in-Err.ensures.cases.1 v)

pub returns-in-Ok-clause-owner : goal.returns-in-Ok-clause-owner
returns-in-Ok-clause-owner c tree e u s o = c.read_text.ensures.owner tree e (rw c.in-Ok.ensures.cases.0 s) o
