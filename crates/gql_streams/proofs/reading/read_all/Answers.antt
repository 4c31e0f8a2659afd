use Rattle.std.proofs.Common.{arith, ◌++◌, take, length-append}
use Rattle.std.proofs.KnownBytes.{Consumes-trans}
use Rattle.gql_streams.proofs.reading.read_all.Goals as goal

pub returns-then-limit-len-clause-too_long : goal.returns-then-limit-len-clause-too_long
returns-then-limit-len-clause-too_long g c _ =
    let piece = take c.in-Ok.count c.read.new.buf in
    record {
      bytes = c.loop-turn.bytes.items ++ piece;
      given = Consumes-trans _ _ _ c.loop-turn.bytes.items piece c.loop-turn.invariant.given c.in-Ok.ensures.bytes.0;
      more = omega (arith, length-append c.loop-turn.bytes.items piece, c.in-Ok.ensures.bound.1);
    }
