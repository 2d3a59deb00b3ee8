-- A finished read, its origin and its own reading, as its session recorded them.
use Rattle.std.specs.Prelude.{◌≡◌, ℕ, ◌+◌, ◌<◌, ◌≤◌, Bool, true, false, [], ◌∷◌, Option, Some, None, nat_le, if◌then◌else◌, max, length, ◌⊎◌}
use Rattle.txn_data.specs.declared.actor.Actor.{Actor}
use Rattle.txn_data.specs.declared.actor.Actor.TheVariants.{Session}
use Rattle.txn_data.specs.declared.told.Told.TheVariants as told
use Rattle.txn_data.specs.declared.event.Event.{Event}
use Rattle.txn_data.specs.declared.event.Event.TheVariants.{Tell}
use Rattle.txn_types.specs.Lists.{Member, or_zero}
use Rattle.txn_types.specs.History.{History}
use Rattle.txn_types.specs.Reads.{Read, reads, reading_after}
use Rattle.law_own_readings.specs.Laws.{origin_by, reading_since}
use Rattle.trace_merge.specs.Clocks.{start_place}
use Rattle.trace_merge.specs.declared.failed_read.FailedRead.{FailedRead}

-- the greatest reading of a history, or 0
unfoldable pub greatest : History → ℕ
greatest [] = 0
greatest (e ∷ h) = max (greatest h) (or_zero e.reading)

-- a read is told its values
abbrev pub is_values : Event → Bool
is_values (Tell number (told.Values at restarts rows)) = true
is_values event = false

-- the origin that the session's readings tell, and its own reading from there on
abbrev pub seen_origin : Read → History
seen_origin read = origin_by read (reading_since read)

abbrev pub seen_own : Read → ℕ
seen_own read = or_zero (reading_after (Session read.session) (length (seen_origin read)) read.before)

-- no reading before the origin is above the own one plus the skew
abbrev pub Meets : ℕ → Read → Type 0
Meets skew read = greatest (seen_origin read) ≤ seen_own read + skew

-- a reading before the origin is: it starts there and has this reading of its own
pub record Fails (skew : ℕ) (read : Read) (f : FailedRead) : Type 0 where
  pub start : start_place read ≡ f.start
  pub own : seen_own read ≡ f.own
  pub above : seen_own read + skew < greatest (seen_origin read)

abbrev pub Judged : ℕ → Read → Option FailedRead → Type 0
Judged skew read None = Meets skew read
Judged skew read (Some f) = Fails skew read f

-- the row of a session in the table, where it has one
abbrev pub session_row : Actor → Option ℕ
session_row (Session i) = if nat_le i 1000 then Some i else None
session_row a = None

-- the session has one of the numbers that the table holds
abbrev pub InTable : Read → Type 0
InTable read = read.session ≤ 1000

-- the first of the finished reads, by Start, that fails
pub record FailedFirst (skew : ℕ) (h : History) (f : FailedRead) : Type 0 where
  pub read : Read
  pub finished : Member read (reads h)
  pub numbered : InTable read
  pub fails : Fails skew read f
  pub first : (other : Read) → Member other (reads h) → InTable other → start_place other < f.start → Meets skew other

abbrev pub JudgedFirst : ℕ → History → Option FailedRead → Type 0
JudgedFirst skew h None = (read : Read) → Member read (reads h) → InTable read → Meets skew read
JudgedFirst skew h (Some f) = FailedFirst skew h f

-- the one of two that starts first, where there are two
abbrev pub IsEarlier : Option FailedRead → Option FailedRead → Option FailedRead → Type 0
IsEarlier None other o = o ≡ other
IsEarlier (Some f) None o = o ≡ Some f
IsEarlier (Some f) (Some g) o = ((g.start < f.start) × (o ≡ Some g)) ⊎ ((f.start ≤ g.start) × (o ≡ Some f))
