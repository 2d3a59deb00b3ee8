-- Whether clocks agree within a skew, and where it shows that they do not.
use Rattle.std.specs.Prelude.{◌≡◌, ℕ, ◌+◌, ◌<◌, Bool, false, [], ◌∷◌, Option, Some, None, nat_lt, length, if◌then◌else◌}
use Rattle.txn_data.specs.declared.config.Config.{Config}
use Rattle.txn_types.specs.Lists.{Member, or_else}
use Rattle.txn_types.specs.History.{History}
use Rattle.txn_types.specs.Reads.{Read, reads, start_of, origin, own_reading, SkewHeld}

-- a reading above a bound
abbrev pub is_above : ℕ → Option ℕ → Bool
is_above most None = false
is_above most (Some reading) = nat_lt most reading

abbrev pub place_if : Bool → ℕ → Option ℕ
place_if above place = if above then Some place else None

-- the place, from 0, of the first reading of a history that is above a bound
unfoldable pub first_above : ℕ → History → Option ℕ
first_above most [] = None
first_above most (e ∷ h) = or_else (first_above most h) (place_if (is_above most e.reading) (length h))

-- the place of the Start of a read
abbrev pub start_place : Read → ℕ
start_place read = length (start_of read)

-- the place of the first reading before the origin of a read that is above the read's own plus the skew
abbrev pub shown_at : Config → ℕ → Read → Option ℕ
shown_at config skew read = first_above (own_reading config read + skew) (origin config read)

-- the first finished read, by its Start, that fails the skew premise, and the first reading that shows it: the Start stands
-- at place s and the reading at place p
pub record FailsFirst (config : Config) (skew : ℕ) (h : History) (s p : ℕ) : Type 0 where
  pub read : Read
  pub finished : Member read (reads h)
  pub start : start_place read ≡ s
  pub fails : SkewHeld config skew read → ⊥
  pub shown : shown_at config skew read ≡ Some p
  pub first : (other : Read) → Member other (reads h) → start_place other < s → SkewHeld config skew other

-- the answer None says that each finished read meets the skew premise, and Some says where it fails first
abbrev pub ClocksAgree : Config → ℕ → History → Option (ℕ × ℕ) → Type 0
ClocksAgree config skew h None = (read : Read) → Member read (reads h) → SkewHeld config skew read
ClocksAgree config skew h (Some places) = FailsFirst config skew h places.0 places.1
