-- Where a refusal is told: what is told of a command whose request met a condition, and of one that was refused at once.
use Rattle.std.specs.Prelude.{◌≡◌, ℕ, ◌<◌, ◌≤◌, true, false, List, ◌∷◌, ◌++◌, Option, Some, None, max}
use Rattle.hybrid_time.specs.Time.{micros_of, logical_of, greatest_reading}
use Rattle.doc_path.specs.Path.{Parts}
use Rattle.txn_data.specs.declared.config.Config.{Config}
use Rattle.txn_data.specs.declared.found.Found.{Found}
use Rattle.txn_data.specs.declared.request.Request.{Request}
use Rattle.txn_data.specs.declared.request.Request.TheVariants as request
use Rattle.txn_data.specs.declared.reply.Reply.TheVariants as reply
use Rattle.txn_data.specs.declared.refusal.Refusal.{Refusal}
use Rattle.txn_data.specs.declared.refusal.Refusal.TheVariants as refusal
use Rattle.txn_data.specs.declared.told.Told.TheVariants as told
use Rattle.txn_data.specs.declared.told_refusal.ToldRefusal.TheVariants as why
use Rattle.txn_types.specs.Lists.{Member, or_zero}
use Rattle.txn_types.specs.History.{History}
use Rattle.txn_types.specs.Clock.{holds, lease_end, last_time, has_given, down_since}
use Rattle.txn_types.specs.Tablet.{provisional, versions, conflict, related_commits, greatest_above, first_of}
use Rattle.txn_types.specs.Status as status
use Rattle.txn_types.specs.Status.{record_of}
use Rattle.txn_types.specs.Program.{refusal_told}
use Rattle.txn_types.specs.Session.{IsOpen}
use Rattle.txn_types.specs.Reads.{before_start}
use Rattle.txn_types.specs.Cause.{ToldAt, ServedAt, served_since, own_then, newcomers, WritesFor, needs_time, floor_asked, IsRestart, MetAndStopped, needs_open, needs_closed, works_inside, InDoubt}
use Rattle.txn_promises.specs.Lines.{mover_then, is_closing, TellsJust, TellsOrMemory}

-- ## where a request meets the row of a refusal, with no earlier row in its place

-- the write meets this conflict
abbrev pub MeetsConflict : Request → History → ℕ → Type 0
MeetsConflict (request.Write meta number path op read seen fates) o other = conflict meta.txn path fates (provisional o) ≡ Some other
MeetsConflict (request.Single x path op seen fates) o other = conflict x path fates (provisional o) ≡ Some other
MeetsConflict asked o other = ⊥

-- the write meets no conflict, and this is the greatest related commit time above its read time
abbrev pub MeetsOverlap : Request → History → ℕ → Type 0
MeetsOverlap (request.Write meta number path op read seen fates) o at =
    (conflict meta.txn path fates (provisional o) ≡ None)
    × (greatest_above read (related_commits meta.txn path fates (provisional o) (versions o)) ≡ Some at)
MeetsOverlap asked o at = ⊥

-- the action takes a time, its actor is up, and no lease holds
abbrev pub TakesTime : ℕ → History → ℕ → Request → Type 0
TakesTime lease o reading asked =
    (down_since o ≡ None) × (needs_time asked o ≡ true) × (holds (lease_end lease o) (has_given o) reading ≡ false)

-- the request meets the row, over the entries that its actor had of its own; a fault of the log is told only where the log
-- failed, and out of memory wherever it runs out
abbrev pub Meets : ℕ → History → Option ℕ → Request → Refusal → Type 0
Meets lease o reading asked (refusal.Down since) = (IsRestart asked → ⊥) × (down_since o ≡ Some since)
Meets lease o reading asked (refusal.Conflict other) = (down_since o ≡ None) × MeetsConflict asked o other
Meets lease o reading asked (refusal.Overlap at) = (down_since o ≡ None) × MeetsOverlap asked o at
Meets lease o reading asked (refusal.LeaseHeld until) =
    (down_since o ≡ None) × (needs_time asked o ≡ true) × (lease_end lease o ≡ Some until) × (has_given o ≡ false)
    × (or_zero reading ≤ until)
Meets lease o reading asked (refusal.ClockRange n) =
    TakesTime lease o (or_zero reading) asked × (or_zero reading ≡ n) × (greatest_reading < n)
Meets lease o reading asked (refusal.ClockFull at) =
    TakesTime lease o (or_zero reading) asked × (or_zero reading ≤ greatest_reading)
    × ((floor : ℕ) × (floor_asked asked ≡ Some floor) × (at ≡ max (last_time o) floor))
    × (logical_of at ≡ 4095) × (or_zero reading ≤ micros_of at)
Meets lease o reading asked refusal.LogFault = ⊥
Meets lease o reading asked refusal.Memory = ⊥

-- ## what was heard decides what is told

-- For each request that was served for the command. If it was refused, or if it met the row of a refusal, just that refusal is
-- told, in the name of the actor that was asked; an applier may be told out of memory instead. Nothing is served for the command
-- after it but the Abort that closes. So where a write met others on a related path that the command's listing had not found,
-- Conflict is told with the least of them. Where a Resolve was answered Pending, Conflict is told, and where a Collect met
-- something and the read may not restart, Restart, or each of them out of memory. Where a Commit was answered aborted, Aborted is
-- told.
pub record HeardDecides (config : Config) (t : ToldAt) : Type 0 where
  pub refused : (s : ServedAt) (r : Refusal) → Member s (served_since t.who t.before) → s.reply ≡ reply.Refused r →
      is_closing (mover_then config t).line s.asked ≡ false → TellsJust t.who t.told (refusal_told s.by r)
  pub ends : (newer older : List ServedAt) (s : ServedAt) (r : Refusal) → served_since t.who t.before ≡ newer ++ (s ∷ older) →
      s.reply ≡ reply.Refused r → (u : ServedAt) → Member u newer → is_closing (mover_then config t).line u.asked ≡ true
  pub rows : (s : ServedAt) (r : Refusal) → Member s (served_since t.who t.before) →
      Meets config.lease_us (own_then s) s.reading s.asked r →
      is_closing (mover_then config t).line s.asked ≡ false → TellsJust t.who t.told (refusal_told s.by r)
  pub between : (s l : ServedAt) (x other : ℕ) (path : Parts) (found : List Found) → Member s (served_since t.who t.before) →
      Member l (served_since t.who t.before) → WritesFor s.asked x path → l.asked ≡ request.ListWrite x path →
      l.reply ≡ reply.Others found → down_since (own_then s) ≡ None →
      first_of (newcomers x path found (own_then s)) ≡ Some other → TellsJust t.who t.told (why.Conflict other)
  pub pending : (s : ServedAt) (other by priority own_priority : ℕ) → Member s (served_since t.who t.before) →
      s.asked ≡ request.Resolve other by priority → down_since (own_then s) ≡ None →
      record_of other (own_then s) ≡ status.Pending own_priority → priority ≤ own_priority →
      TellsOrMemory t.told (why.Conflict other)
  pub aborted : (s : ServedAt) (x floor by : ℕ) (tablets : List ℕ) → Member s (served_since t.who t.before) →
      s.asked ≡ request.Commit x floor tablets → down_since (own_then s) ≡ None →
      record_of x (own_then s) ≡ status.AbortedBy by → t.told ≡ told.Refused (why.Aborted by)
  pub met : (at : ℕ) (path : Parts) → MetAndStopped config t.who t.before at path → TellsOrMemory t.told (why.Restart at path)

-- ## what is refused at once

-- The session's own refusals. A command that needs an open transaction and has none is told NoTxn, one that needs that none
-- is open and has one TxnOpen, and a put, a del, a read or a scan inside a transaction of which a commit or an abort was
-- served with a failed append is told InDoubt, or each of them out of memory. A reading in the entry that tells is out of
-- range, and is told so; one that stands in an entry that asks is not.
pub record AtOnce (config : Config) (t : ToldAt) : Type 0 where
  pub none_open : needs_open (mover_then config t).line ≡ true → (mover_then config t).keeps.opened ≡ None →
      TellsOrMemory t.told why.NoTxn
  pub is_open : needs_closed (mover_then config t).line ≡ true → IsOpen (mover_then config t).keeps.opened →
      TellsOrMemory t.told why.TxnOpen
  pub in_doubt : works_inside (mover_then config t).line ≡ true →
      InDoubt (mover_then config t).keeps.opened (before_start t.who t.before) → TellsOrMemory t.told why.InDoubt
  pub out_of_range : (n : ℕ) → t.reading ≡ Some n → (t.told ≡ told.Refused (why.ClockRange t.who n)) × (greatest_reading < n)
  pub in_range : (n : ℕ) → (mover_then config t).reading ≡ Some n → n ≤ greatest_reading

-- a command that meets the condition of a refusal, with no earlier one in its place, is told it, or out of memory
pub record Decides (config : Config) (t : ToldAt) : Type 0 where
  pub heard : HeardDecides config t
  pub at_once : AtOnce config t
