use Rattle.gql_text.proofs.Judgements.{only_document, owner_fault, owner_only, no_stop}
use Rattle.gql_text.proofs.sdl.read_text.Goals as goal

pub returns-in-Ok-clause-only : goal.returns-in-Ok-clause-only
returns-in-Ok-clause-only c = only_document c.args.text.now c.in-Ok.tree c.in-Ok.ensures.found c.in-Ok.ensures.only c.judge.result c.judge.ensures

pub returns-in-Ok-clause-fault : goal.returns-in-Ok-clause-fault
returns-in-Ok-clause-fault c = owner_fault c.args.text.now c.in-Ok.tree c.in-Ok.ensures.found c.in-Ok.ensures.only c.requires c.judge.result c.judge.ensures

pub returns-in-Ok-clause-stops : goal.returns-in-Ok-clause-stops
returns-in-Ok-clause-stops c e x = no_stop c.judge.result e (c.in-Ok.ensures.stops e x)

pub returns-in-Ok-clause-owner : goal.returns-in-Ok-clause-owner
returns-in-Ok-clause-owner c = owner_only c.args.text.now c.in-Ok.tree c.in-Ok.ensures.found c.in-Ok.ensures.only c.judge.result c.judge.ensures

pub returns-in-Err-clause-only : goal.returns-in-Err-clause-only
returns-in-Err-clause-only c d s = c.in-Err.ensures.only s.tree s.spelled

pub returns-in-Err-clause-owner : goal.returns-in-Err-clause-owner
returns-in-Err-clause-owner c tree e s o m = absurd (m (c.in-Err.ensures.only tree s))
