use Rattle.std.proofs.Common.{length, ◌-◌, ◌≤◌, take}
use Rattle.std.specs.Io.KnownBytes.{Appends}
use Rattle.gql_streams.proofs.writing.write_all.Given as goal

-- the sink got what is done
abbrev pub invariant-loop-done : goal.invariant-loop-done
invariant-loop-done g l =
    let sink = g.K.Sink in
    record {
      within : l.done ≤ length l.text;
      given : Appends (sink.state l.fn.output).written (sink.state l.output).written (take l.done l.text);
      later : (sink.state l.fn.output).faults ≤ (sink.state l.output).faults;
    }

abbrev pub decreases-loop-done : goal.decreases-loop-done
decreases-loop-done g l = length l.text - l.done
