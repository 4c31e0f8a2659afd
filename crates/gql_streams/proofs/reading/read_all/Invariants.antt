use Rattle.std.proofs.Common.{◌≤◌, length}
use Rattle.std.specs.Io.KnownBytes.{Consumes}
use Rattle.gql_streams.proofs.reading.read_all.Given as goal

-- each turn so far took a byte
abbrev pub invariant-loop-turn : goal.invariant-loop-turn
invariant-loop-turn g l =
    let source = g.S.Source in
    record {
      given : Consumes (source.state l.fn.input).left (source.state l.input).left l.bytes.items;
      turns : l._turn ≤ length l.bytes.items;
      within : length l.bytes.items ≤ l.fn.limit;
      later : (source.state l.fn.input).faults ≤ (source.state l.input).faults;
    }
