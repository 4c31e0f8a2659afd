use Rattle.gql_publish.specs.Troubles.{AreAnswered, Explains, ExplainsRequest, IsAnswered}
use Rattle.gql_publish.proofs.Tellings.{explains, if_err, on_ok}
use Rattle.gql_publish.proofs.program.answer_words.Goals as goal

pub returns-in-Ok-clause-done : goal.returns-in-Ok-clause-done
returns-in-Ok-clause-done g c =
    let before = g.S.Source.state c.args.input.now in
    let now = g.S.Source.state c.answer.new.input in
    let before' = g.K.Sink.state c.args.output.now in
    let now' = g.K.Sink.state c.answer.new.output in
    on_ok c.answer.result (IsAnswered c.in-Ok.request before now before' now') (AreAnswered c.args.words.now before now before' now') c.answer.ensures.done (λ h. (c.in-Ok.request, c.in-Ok.ensures.asked, h))

pub returns-in-Ok-clause-trouble : goal.returns-in-Ok-clause-trouble
returns-in-Ok-clause-trouble g c =
    let before = g.S.Source.state c.args.input.now in
    let now = g.S.Source.state c.answer.new.input in
    let before' = g.K.Sink.state c.args.output.now in
    let now' = g.K.Sink.state c.answer.new.output in
    if_err c.answer.result (ExplainsRequest c.in-Ok.request before now before' now') (Explains c.args.words.now before now before' now') c.answer.ensures.trouble
    (λ t h. explains c.args.words.now before now before' now' t c.in-Ok.request c.in-Ok.ensures.asked h)
