-- A sink in memory, as contracts see it.
use Rattle.std.specs.Prelude.{ℕ, Bool, List, ◌++◌, ◌-◌, min, take, length, if◌then◌else◌}
use Rattle.docdb_outside.specs.Count.{step}
use Rattle.docdb_outside.specs.Script.{is_listed}
use Rattle.docdb_outside.specs.Sink.{stalls_after}

pub record SinkState : Type 0 where
  -- the bytes taken
  pub taken : List ℕ
  -- how many bytes it has room for in all
  pub room : ℕ
  -- the most bytes of one write
  pub per_write : ℕ
  -- the numbers of the calls that fail
  pub fails : List ℕ
  -- the numbers of the calls that take nothing
  pub stalls_at : List ℕ
  -- how many calls there were
  pub calls : ℕ
  -- how many of them failed
  pub faults : ℕ
  -- how many of them took nothing of a piece that was not empty
  pub stalls : ℕ

-- the next call fails
abbrev pub fails_next : SinkState → Bool
fails_next sink = is_listed sink.fails (step sink.calls)

-- how many bytes of a piece of this length the next call takes, if it does not fail
abbrev pub next_count : SinkState → ℕ → ℕ
next_count sink bytes =
    if is_listed sink.stalls_at (step sink.calls) then 0
    else min bytes (min sink.per_write (sink.room - length sink.taken))

-- after a call that took this many bytes of a piece
abbrev pub after_write : SinkState → ℕ → List ℕ → SinkState
after_write sink count piece = record sink {
  taken = sink.taken ++ take count piece;
  calls = step sink.calls;
  stalls = stalls_after sink.stalls count (length piece);
}

-- after a call that failed
abbrev pub after_fault : SinkState → SinkState
after_fault sink = record sink { calls = step sink.calls; faults = step sink.faults }
