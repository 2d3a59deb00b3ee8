-- Which tablet owns a hash. A hash is below 65536.
use Rattle.std.specs.Prelude.{ℕ, ◌+◌, ◌*◌, ◌/◌, ◌<◌, ◌≤◌}
use Rattle.std.specs.Int.{div_ceil}

-- the tablet of n that owns a hash
abbrev pub owner : ℕ → ℕ → ℕ
owner hash n = hash * n / 65536

-- the least hash of tablet i of n, which is the one after the last of tablet i - 1
abbrev pub first_hash : ℕ → ℕ → ℕ
first_hash i n = div_ceil (i * 65536) n

-- the hash lies in the range of tablet i of n
pub record IsInRange (hash i n : ℕ) : Type 0 where
  pub from_first : first_hash i n ≤ hash
  pub below_next : hash < first_hash (i + 1) n
