use Rattle.std.proofs.Common.{subst}
use Rattle.gql_streams.specs.Writing.{Gets, GetsPrefix}
use Rattle.gql_publish.proofs.program.write_summary.Goals as goal

pub returns-in-Ok-write_all-clause-done : goal.returns-in-Ok-write_all-clause-done
returns-in-Ok-write_all-clause-done g c =
    let line = c.in-Ok.ensures in (
      line.0,
      record {
        valid = line.1;
        text = subst (Gets (g.K.Sink.state c.args.output.now) (g.K.Sink.state c.write_all.new.output)) line.2 (rw c.as_bytes.ensures.value at c.in-Ok-write_all.ensures.whole);
        flush = c.in-Ok-write_all.ensures.flushed;
      },
    )

pub returns-clause-trouble : goal.returns-clause-trouble
returns-clause-trouble g c =
    let line = c.in-Ok.ensures in (
      c.in-Err-write_all.ensures.cause.failed,
      (
        line.0,
        record {
          valid = line.1;
          prefix = subst (GetsPrefix (g.K.Sink.state c.args.output.now) (g.K.Sink.state c.write_all.new.output)) line.2 (rw c.as_bytes.ensures.value at c.in-Err-write_all.ensures.prefix);
        },
      ),
    )
