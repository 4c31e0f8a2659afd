use Rattle.std.proofs.Common.{rules}
use Rattle.gql_streams.proofs.Pieces.{wrote_more}
use Rattle.gql_streams.proofs.writing.write_all.Goals as goal

pub loop-done-preserved : goal.loop-done-preserved
loop-done-preserved g c = record {
  within = search rules;
  given = wrote_more _ _ _ c.args.text.now c.loop-done.done c.in_ok-done.field-0 c.loop-done.invariant.given c.in_ok-done.ensures.bytes;
  later = search rules;
}
