-- What the refusal of a machine says of the entries that it had of its own then.
use Rattle.std.specs.Prelude.{◌≡◌, ℕ, ◌<◌, ◌≤◌, true, false, Option, Some, max}
use Rattle.hybrid_time.specs.Time.{micros_of, logical_of, greatest_reading}
use Rattle.txn_data.specs.declared.append.Append.{Append}
use Rattle.txn_data.specs.declared.request.Request.{Request}
use Rattle.txn_data.specs.declared.refusal.Refusal.{Refusal}
use Rattle.txn_data.specs.declared.refusal.Refusal.TheVariants as refusal
use Rattle.txn_types.specs.Lists.{or_zero}
use Rattle.txn_types.specs.History.{History}
use Rattle.txn_types.specs.Clock.{lease_end, last_time, has_given, down_since}
use Rattle.txn_types.specs.Cause.{needs_time, floor_asked, Fails, IsRestart}
use Rattle.txn_promises.specs.Refuses.{MeetsConflict, MeetsOverlap}

-- what a refusal says of the entries then; no machine serves out of memory
abbrev pub Explains : ℕ → History → Option ℕ → Request → Append → Refusal → Type 0
Explains lease o reading asked append (refusal.Conflict other) = MeetsConflict asked o other
Explains lease o reading asked append (refusal.Overlap at) = MeetsOverlap asked o at
Explains lease o reading asked append (refusal.LeaseHeld until) = (needs_time asked o ≡ true) × (lease_end lease o ≡ Some until) × (has_given o ≡ false) × (or_zero reading ≤ until)
Explains lease o reading asked append (refusal.ClockFull at) =
    (needs_time asked o ≡ true) × ((floor : ℕ) × (floor_asked asked ≡ Some floor) × (at ≡ max (last_time o) floor)) × (logical_of at ≡ 4095) × (or_zero reading ≤ micros_of at)
Explains lease o reading asked append (refusal.ClockRange n) = (needs_time asked o ≡ true) × (greatest_reading < n) × (or_zero reading ≡ n)
Explains lease o reading asked append refusal.LogFault = Fails asked append
Explains lease o reading asked append (refusal.Down since) = (IsRestart asked → ⊥) × (down_since o ≡ Some since)
Explains lease o reading asked append refusal.Memory = ⊥
