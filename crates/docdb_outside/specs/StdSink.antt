-- A sink over a writer of std, as contracts see it.
use Rattle.std.specs.Prelude.{ℕ}

pub record WriterState (Writer : Type 0) : Type 0 where
  pub writer : Writer
  -- how many writes failed
  pub faults : ℕ
  -- how often a write took nothing of a piece that was not empty
  pub stalls : ℕ
