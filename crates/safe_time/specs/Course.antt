-- Any sequence of steps of a clock, of appends that fail and of restarts, and which times count in the end. A load that
-- fails changes nothing here: the actor is down, and stays so.
use Rattle.std.specs.Prelude.{ℕ, ◌<◌, ◌≤◌, Bool, true, false, List, [], ◌∷◌, Option, Some, None, Result, Ok, Err}
use Rattle.hybrid_time.specs.Time.{micros_of}
use Rattle.txn_types.specs.Lists.{or_else}
use Rattle.safe_time.specs.declared.step.Step.{Step}
use Rattle.safe_time.specs.declared.clock_refusal.ClockRefusal.{ClockRefusal}
use Rattle.safe_time.specs.ActorClock.{ClockState, at_first, served, taken, restarted}

pub data Happening : Type 0 where
  -- an action takes a time, and the log takes what it logs, or there is nothing to log
  Takes : (reading floor : ℕ) (tick : Bool) → Happening
  -- an action takes a time, and its append fails
  Fails : (reading floor : ℕ) (tick : Bool) → Happening
  -- a restart loads the log, which kept the failed piece or lost it
  Restarts : (kept : Bool) → Happening

pub record Course : Type 0 where
  pub clock : ClockState
  -- the end of the last lease in the log
  pub logged : Option ℕ
  -- the step whose append failed, and no restart came since: the actor is down
  pub failed : Option Step
  -- the times that count, the newest first
  pub counted : List ℕ

abbrev pub begun : ℕ → Course
begun lease = record { clock = at_first lease; logged = None; failed = None; counted = [] }

-- a step that stands in the log
abbrev pub counts : Course → Step → Course
counts s step = record s { logged = or_else step.lease s.logged; counted = step.time ∷ s.counted }

abbrev pub takes : Course → Result Step ClockRefusal → Course
takes s (Err e) = s
takes s (Ok step) = record (counts s step) { clock = taken s.clock step }

abbrev pub fails : Course → Result Step ClockRefusal → Course
fails s (Err e) = s
fails s (Ok step) = record s { failed = Some step }

-- what the log holds after a failed piece was kept or lost
abbrev pub decided : Course → Bool → Option Step → Course
decided s true (Some step) = counts s step
decided s kept failed = s

-- an actor that is down serves no step
abbrev pub unless_down : Course → Option Step → Course → Course
unless_down s (Some step) next = s
unless_down s None next = next

abbrev pub after : Course → Happening → Course
after s (Takes reading floor tick) = unless_down s s.failed (takes s (served s.clock reading floor tick))
after s (Fails reading floor tick) = unless_down s s.failed (fails s (served s.clock reading floor tick))
after s (Restarts kept) =
    let d = decided s kept s.failed in
    record d { clock = restarted s.clock d.logged; failed = None }

-- the newest happening first
unfoldable pub course : ℕ → List Happening → Course
course lease [] = begun lease
course lease (x ∷ xs) = after (course lease xs) x

-- a time of its own is above all of these, another one is not below them
abbrev pub IsLater : Bool → ℕ → ℕ → Type 0
IsLater true time earlier = earlier < time
IsLater false time earlier = earlier ≤ time

abbrev pub AllLater : Bool → ℕ → List ℕ → Type 0
AllLater tick time [] = Unit {0}
AllLater tick time (t ∷ ts) = IsLater tick time t × AllLater tick time ts

-- the microseconds of a time are not above the end of the lease
abbrev pub IsLeased : Option ℕ → ℕ → Type 0
IsLeased None time = ⊥
IsLeased (Some end) time = micros_of time ≤ end

abbrev pub AllLeased : Option ℕ → List ℕ → Type 0
AllLeased end [] = Unit {0}
AllLeased end (t ∷ ts) = IsLeased end t × AllLeased end ts
