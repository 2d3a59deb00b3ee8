-- What one more transaction changes, in a search for the least id or the greatest time.
use Rattle.std.specs.Prelude.{ℕ, Option, Some, None, max, min, nat_lt, if◌then◌else◌}
use Rattle.txn_types.specs.Lists.{or_zero}

abbrev pub lesser : ℕ → Option ℕ → Option ℕ
lesser n None = Some n
lesser n (Some m) = Some (min n m)

abbrev pub greater_above : ℕ → ℕ → Option ℕ → Option ℕ
greater_above read c greatest = if nat_lt read c then Some (max c (or_zero greatest)) else greatest

abbrev pub with_time : ℕ → Option ℕ → Option ℕ → Option ℕ
with_time read None greatest = greatest
with_time read (Some c) greatest = greater_above read c greatest
