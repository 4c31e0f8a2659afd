use Rattle.std.proofs.Common.{arith, string_bytes}
use Rattle.gql_publish_sample.specs.Sample.{sample}
use Rattle.gql_publish_sample.proofs.Writing.{one_written, all_written}
use Rattle.gql_publish_sample.proofs.sample_text.Goals as goal

pub loop-number-preserved : goal.loop-number-preserved
loop-number-preserved c =
    one_written (string_bytes c.loop-number.text) (string_bytes c.write_line.new.text) (sample c.args.types) c.loop-number.number (omega arith) c.in_ok-write_line.ensures c.loop-number.invariant

pub returns : goal.returns
returns c = all_written (string_bytes c.loop-number.text) (sample c.args.types) c.loop-number.number (omega arith) c.loop-number.invariant
