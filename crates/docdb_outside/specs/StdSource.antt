-- A source over a reader of std, as contracts see it.
use Rattle.std.specs.Prelude.{ℕ}

pub record ReaderState (Reader : Type 0) : Type 0 where
  pub reader : Reader
  -- how many reads failed
  pub faults : ℕ
