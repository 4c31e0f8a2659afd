-- What a source and a sink say of themselves at a moment.
use Rattle.std.specs.Prelude.{ℕ, List}
use Rattle.std.specs.declared.option.Option.{Option}

-- of a source: the bytes that reads will give from here on, where it says them, and how often it has failed
pub record Input : Type 0 where
  pub left : Option (List ℕ)
  pub faults : ℕ

-- of a sink: the bytes written, where it says them, how many of them are flushed, and how often it has failed
pub record Output : Type 0 where
  pub written : Option (List ℕ)
  pub flushed : ℕ
  pub faults : ℕ
