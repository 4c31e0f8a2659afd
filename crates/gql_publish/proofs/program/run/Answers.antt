use Rattle.std.proofs.Common.{inl}
use Rattle.std.proofs.KnownBytes.{Appends-nil}
use Rattle.gql_publish.specs.Endings.{streams}
use Rattle.gql_publish.proofs.Tellings.{ends, ends_well}
use Rattle.gql_publish.proofs.Verdicts.{ends_so, sampled_so}
use Rattle.gql_publish.proofs.program.run.Goals as goal

pub returns-in-Ok-clause-ends : goal.returns-in-Ok-clause-ends
returns-in-Ok-clause-ends g c =
    ends_well c.args.words.now
    (streams (g.S.Source.state c.args.input.now) (g.K.Sink.state c.args.output.now) (g.F.Sink.state c.args.faults.now))
    (streams (g.S.Source.state c.answer_words.new.input) (g.K.Sink.state c.answer_words.new.output) (g.F.Sink.state c.args.faults.now))
    c.in-Ok.ensures.done (inl (Appends-nil (g.F.Sink.state c.args.faults.now).written))

pub returns-in-Ok-clause-sampled : goal.returns-in-Ok-clause-sampled
returns-in-Ok-clause-sampled g c = λ types a. sampled_so c.args.words.now _ _ _ types a (returns-in-Ok-clause-ends g c)

pub returns-in-Ok-clause-exactly : goal.returns-in-Ok-clause-exactly
returns-in-Ok-clause-exactly g c = λ verdict u. ends_so c.args.words.now _ _ _ verdict u (returns-in-Ok-clause-ends g c)

pub returns-in-Err-clause-ends : goal.returns-in-Err-clause-ends
returns-in-Err-clause-ends g c =
    ends c.args.words.now
    (streams (g.S.Source.state c.args.input.now) (g.K.Sink.state c.args.output.now) (g.F.Sink.state c.args.faults.now))
    (streams (g.S.Source.state c.answer_words.new.input) (g.K.Sink.state c.answer_words.new.output) (g.F.Sink.state c.tell.new.faults))
    _ _ c.in-Err.trouble c.in-Err.ensures.trouble c.status.ensures c.line.ensures c.tell.ensures

pub returns-in-Err-clause-sampled : goal.returns-in-Err-clause-sampled
returns-in-Err-clause-sampled g c = λ types a. sampled_so c.args.words.now _ _ _ types a (returns-in-Err-clause-ends g c)

pub returns-in-Err-clause-exactly : goal.returns-in-Err-clause-exactly
returns-in-Err-clause-exactly g c = λ verdict u. ends_so c.args.words.now _ _ _ verdict u (returns-in-Err-clause-ends g c)
