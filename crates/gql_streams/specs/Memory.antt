-- Sources and sinks in memory: their parts, which of their calls fail, and what each call leaves.
use Rattle.std.specs.Prelude.{◌+◌, ◌-◌, ◌^◌, ◌==◌, ◌||◌, ◌&&◌, ◌++◌, [], nat_lt, nat_le, ℕ, Bool, Some, min, max, List, length, drop, take}
use Rattle.std.specs.List.{list_any}
use Rattle.gql_streams.specs.Outside.{Input, Output}
use Rattle.gql_streams.specs.declared.memory.MemorySource.{MemorySource}
use Rattle.gql_streams.specs.declared.memory.MemorySink.{MemorySink}

-- one more, but for a count that stands at its type's end
abbrev pub next : ℕ → ℕ
next count = min (count + 1) (2 ^ 64 - 1)

-- ---- the source

-- what is left, the most bytes of a call, the numbers of the calls that fail, and how many calls and faults there were
pub record SourceState : Type 0 where
  pub left : List ℕ
  pub cap : ℕ
  pub failing : List ℕ
  pub calls : ℕ
  pub faults : ℕ

-- the parts of a source
abbrev pub source_state : MemorySource → SourceState
source_state s = record { left = drop s.at s.bytes.items; cap = s.cap; failing = s.failing.items; calls = s.calls; faults = s.faults }

-- what a source in memory says of itself: it knows its bytes
abbrev pub input_of : MemorySource → Input
input_of s = record { left = Some (source_state s).left; faults = (source_state s).faults }

-- a source that was not read yet; no call takes fewer bytes than one
abbrev pub new_source : List ℕ → ℕ → List ℕ → SourceState
new_source bytes cap failing = record { left = bytes; cap = max cap 1; failing = failing; calls = 0; faults = 0 }

-- the next call of the source fails
abbrev pub source_fails : SourceState → Bool
source_fails s = list_any (λ number. number == next s.calls) s.failing

-- how many bytes a call gives into a buffer of this length
abbrev pub read_count : SourceState → ℕ → ℕ
read_count s room = min (min s.cap room) (length s.left)

-- the source after a call that gave so many bytes
abbrev pub after_read : SourceState → ℕ → SourceState
after_read s count = record s { left = drop count s.left; calls = next s.calls }

-- the source after a call that failed
abbrev pub after_failed_read : SourceState → SourceState
after_failed_read s = record s { calls = next s.calls; faults = next s.faults }

-- ---- the sink

-- what is written and how much of it is flushed, the room, the most bytes of a call, the numbers of the calls that
-- fail, and how many calls and faults there were
pub record SinkState : Type 0 where
  pub written : List ℕ
  pub flushed : ℕ
  pub room : ℕ
  pub cap : ℕ
  pub failing : List ℕ
  pub calls : ℕ
  pub faults : ℕ

-- the parts of a sink
abbrev pub sink_state : MemorySink → SinkState
sink_state s = record { written = s.bytes.items; flushed = s.flushed; room = s.room; cap = s.cap; failing = s.failing.items; calls = s.calls; faults = s.faults }

-- what a sink in memory says of itself: it knows its bytes
abbrev pub output_of : MemorySink → Output
output_of s = record { written = Some (sink_state s).written; flushed = (sink_state s).flushed; faults = (sink_state s).faults }

-- a sink that nothing was written to; no call takes fewer bytes than one
abbrev pub new_sink : ℕ → ℕ → List ℕ → SinkState
new_sink room cap failing = record { written = []; flushed = 0; room = room; cap = max cap 1; failing = failing; calls = 0; faults = 0 }

-- the next call of the sink fails, whatever it is
abbrev pub sink_fails : SinkState → Bool
sink_fails s = list_any (λ number. number == next s.calls) s.failing

-- a write of so many bytes fails: by its number, or since the room is used up
abbrev pub write_fails : SinkState → ℕ → Bool
write_fails s count = sink_fails s || (nat_lt 0 count && nat_le s.room (length s.written))

-- how many bytes of a piece of this length a call takes
abbrev pub write_count : SinkState → ℕ → ℕ
write_count s piece = min (min s.cap piece) (s.room - length s.written)

-- the sink after a call that took so many bytes of the piece
abbrev pub after_write : SinkState → List ℕ → ℕ → SinkState
after_write s piece count = record s { written = s.written ++ take count piece; calls = next s.calls }

-- the sink after a flush
abbrev pub after_flush : SinkState → SinkState
after_flush s = record s { flushed = length s.written; calls = next s.calls }

-- the sink after a call that failed
abbrev pub after_failed_call : SinkState → SinkState
after_failed_call s = record s { calls = next s.calls; faults = next s.faults }
