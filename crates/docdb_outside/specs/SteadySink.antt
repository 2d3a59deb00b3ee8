-- A sink in memory that never fails, as contracts see it.
use Rattle.std.specs.Prelude.{ℕ, List, ◌++◌, take, length}
use Rattle.docdb_outside.specs.Sink.{stalls_after}

pub record SteadyState : Type 0 where
  -- the bytes taken
  pub taken : List ℕ
  -- how many bytes it has room for in all
  pub room : ℕ
  -- how often it took nothing of a piece that was not empty
  pub stalls : ℕ

-- after a call that took this many bytes of a piece
abbrev pub after_write : SteadyState → ℕ → List ℕ → SteadyState
after_write sink count piece = record sink {
  taken = sink.taken ++ take count piece;
  stalls = stalls_after sink.stalls count (length piece);
}
