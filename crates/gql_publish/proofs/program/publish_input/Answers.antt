use Rattle.std.proofs.Common.{rules, subst, List, ℕ}
use Rattle.gql_sdl.specs.Values.{options_of}
use Rattle.gql_streams.specs.Writing.{GetsNothing}
use Rattle.gql_publish.specs.Troubles.{IsTroubleWith}
use Rattle.gql_publish.proofs.Tellings.{published, published_prefix, explains_text}
use Rattle.gql_publish.proofs.program.publish_input.Goals as goal

pub returns-in-Err-clause-trouble : goal.returns-in-Err-clause-trouble
returns-in-Err-clause-trouble g c =
    let output = g.K.Sink.state c.args.output.now in
    let none : GetsNothing output output = search rules in
    explains_text (options_of c.args.options) (g.S.Source.state c.args.input.now) (g.S.Source.state c.read_all.new.input) output c.in-Ok.bytes.items c.in-Err.trouble
    c.in-Ok.ensures.all c.in-Ok.ensures.within none
    (subst (λ (bytes : List ℕ). IsTroubleWith bytes c.in-Err.trouble) c.deref.ensures.value c.in-Err.ensures.refused)

pub returns-in-Ok-write_all-clause-done : goal.returns-in-Ok-write_all-clause-done
returns-in-Ok-write_all-clause-done g c =
    published (options_of c.args.options) (g.S.Source.state c.args.input.now) (g.S.Source.state c.read_all.new.input) (g.K.Sink.state c.args.output.now) (g.K.Sink.state c.write_all.new.output)
    c.in-Ok.bytes.items _ c.in-Ok.ensures.all c.in-Ok.ensures.within (rw c.deref.ensures.value at c.in-Ok-text_of.ensures.text)
    (rw c.as_bytes.ensures.value at c.in-Ok-write_all.ensures.whole) c.in-Ok-write_all.ensures.flushed

pub returns-clause-trouble : goal.returns-clause-trouble
returns-clause-trouble g c = (
  c.in-Err-write_all.ensures.cause.failed,
  published_prefix (options_of c.args.options) (g.S.Source.state c.args.input.now) (g.S.Source.state c.read_all.new.input) (g.K.Sink.state c.args.output.now) (g.K.Sink.state c.write_all.new.output)
      c.in-Ok.bytes.items _ c.in-Ok.ensures.all c.in-Ok.ensures.within (rw c.deref.ensures.value at c.in-Ok-text_of.ensures.text)
      (rw c.as_bytes.ensures.value at c.in-Err-write_all.ensures.prefix),
)
