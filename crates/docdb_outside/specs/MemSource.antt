-- A source in memory, as contracts see it.
use Rattle.std.specs.Prelude.{ℕ, Bool, List, drop, length, min}
use Rattle.docdb_outside.specs.Count.{step}
use Rattle.docdb_outside.specs.Script.{is_listed}

pub record SourceState : Type 0 where
  -- the bytes left
  pub left : List ℕ
  -- the most bytes of one read
  pub per_read : ℕ
  -- the numbers of the calls that fail
  pub fails : List ℕ
  -- how many calls there were
  pub calls : ℕ
  -- how many of them failed
  pub faults : ℕ

-- the next call fails
abbrev pub fails_next : SourceState → Bool
fails_next source = is_listed source.fails (step source.calls)

-- how many bytes the next call moves into a buffer of this length, if it does not fail
abbrev pub next_count : SourceState → ℕ → ℕ
next_count source room = min room (min source.per_read (length source.left))

-- after a call that moved this many bytes
abbrev pub after_read : SourceState → ℕ → SourceState
after_read source count = record source { left = drop count source.left; calls = step source.calls }

-- after a call that failed
abbrev pub after_fault : SourceState → SourceState
after_fault source = record source { calls = step source.calls; faults = step source.faults }
