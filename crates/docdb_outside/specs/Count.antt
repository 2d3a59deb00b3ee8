-- Counts of what happened outside. They never fall. They are kept in 64 bits, and stand still at the end.
use Rattle.std.specs.Prelude.{ℕ, ◌+◌, ◌-◌, ◌^◌, ◌≤◌, min}

-- one more
abbrev pub step : ℕ → ℕ
step count = min (count + 1) (2 ^ 64 - 1)

-- at least one more was counted
abbrev pub Rose : ℕ → ℕ → Type 0
Rose old new = step old ≤ new
