-- The stalls of a sink: writes that took nothing of a piece that was not empty.
use Rattle.std.specs.Prelude.{ℕ, ◌&&◌, ◌==◌, nat_lt, if◌then◌else◌}
use Rattle.docdb_outside.specs.Count.{step}

-- the stalls after a write that took this many bytes of a piece of that length
abbrev pub stalls_after : ℕ → ℕ → ℕ → ℕ
stalls_after stalls count bytes = if (count == 0) && nat_lt 0 bytes then step stalls else stalls
