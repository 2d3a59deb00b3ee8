-- A read of bytes that are told.
use Rattle.std.specs.Prelude.{◌≡◌, ℕ, ◌≤◌, ◌<◌, List, [], length, take, drop, Option, Some}

-- The first n bytes moved into the buffer, and the others are left.
-- None moved only at the end, or where there was no room.
pub record MovesFront (bytes : List ℕ) (n : ℕ) (buffer : List ℕ) (left : Option (List ℕ)) : Type 0 where
  pub within : n ≤ length bytes
  pub rest : left ≡ Some (drop n bytes)
  pub copied : take n buffer ≡ take n bytes
  pub at_end : n ≡ 0 → 0 < length buffer → bytes ≡ []
