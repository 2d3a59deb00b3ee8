-- A log store in memory, as contracts see it.
use Rattle.std.specs.Prelude.{ℕ, List, ◌==◌, ◌++◌, find, Option, Some, None, if◌then◌else◌}
use Rattle.docdb_outside.specs.Count.{step}
use Rattle.docdb_outside.specs.declared.fail_at.FailAt.{FailAt}

pub record LogState : Type 0 where
  -- the bytes held
  pub held : List ℕ
  -- how many more bytes it has room for
  pub room : ℕ
  -- which calls fail
  pub fails : List FailAt
  -- how many appends and loads there were
  pub calls : ℕ
  -- how many of them failed
  pub faults : ℕ
  -- how often the log was loaded
  pub loads : ℕ

-- what the script says of the call with this number; the first call is number 1
abbrev pub failure_at : List FailAt → ℕ → Option FailAt
failure_at fails number = find (λ failure. failure.call == number) fails

-- what the script says of the next call
abbrev pub next_failure : LogState → Option FailAt
next_failure log = failure_at log.fails (step log.calls)

-- the bytes held after an append of a piece: with it, unless the append failed and lost it
abbrev pub held_after : Option FailAt → List ℕ → List ℕ → List ℕ
held_after None held piece = held ++ piece
held_after (Some failure) held piece = if failure.kept then held ++ piece else held

-- after one more append or load
abbrev pub after_call : LogState → LogState
after_call log = record log { calls = step log.calls }

-- after one more, which failed
abbrev pub after_fault : LogState → LogState
after_fault log = record log { calls = step log.calls; faults = step log.faults }

-- after one more, which loaded the log
abbrev pub after_load : LogState → LogState
after_load log = record log { calls = step log.calls; loads = step log.loads }
