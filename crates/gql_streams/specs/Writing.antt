-- What a run of writes left.
use Rattle.std.specs.Prelude.{ℕ, ◌⊎◌, ◌≡◌, List, take, length, IfSome}
use Rattle.std.specs.Io.KnownBytes.{Appends, Keeps}
use Rattle.gql_streams.specs.Causes.{SinkFails}
use Rattle.gql_streams.specs.Outside.{Output}

-- the sink got exactly the text
abbrev pub Gets : Output → Output → List ℕ → Type 0
Gets before now text = Appends before.written now.written text

-- the sink got nothing
abbrev pub GetsNothing : Output → Output → Type 0
GetsNothing before now = Keeps before.written now.written

-- all that was written is flushed, where the sink says it
abbrev pub IsFlushed : Output → Type 0
IsFlushed now = IfSome now.written (λ bytes. now.flushed ≡ length bytes)

-- the sink got a prefix of the text
pub record GetsPrefix (before now : Output) (text : List ℕ) : Type 0 where
  pub count : ℕ
  pub given : Gets before now (take count text)

-- the sink got exactly the text or, only where it failed, a prefix of it
abbrev pub GetsOrFails : Output → Output → List ℕ → Type 0
GetsOrFails before now text = Gets before now text ⊎ (SinkFails before now × GetsPrefix before now text)
