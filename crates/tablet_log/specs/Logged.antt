-- What the store of an actor holds and has counted, by the actor's own entries.
use Rattle.std.specs.Prelude.{◌≡◌, ℕ, ◌+◌, ◌-◌, ◌^◌, ◌≤◌, ◌⊎◌, ◌++◌, min, List, [], ◌∷◌}
use Rattle.txn_data.specs.declared.actor.Actor.{Actor}
use Rattle.txn_data.specs.declared.config.Config.{Config}
use Rattle.txn_data.specs.declared.reply.Reply.TheVariants as reply
use Rattle.txn_data.specs.declared.refusal.Refusal.TheVariants as refusal
use Rattle.txn_data.specs.declared.event.Event.{Event}
use Rattle.txn_data.specs.declared.event.Event.TheVariants.{Serve}
use Rattle.txn_types.specs.History.{History, own}
use Rattle.txn_types.specs.Run.{IsMachine}
use Rattle.tablet_log.specs.Frames.{frames}
use Rattle.tablet_log.specs.Entries.{logged_records, failed_records}

-- a store: the bytes that it holds, and its count of faults
pub record Store : Type 0 where
  pub held : List ℕ
  pub faults : ℕ

-- how many entries answer that the log failed, at an append or a load
abbrev pub faults_after : ℕ → Event → ℕ
faults_after n (Serve from asked (reply.Refused refusal.LogFault) time append) = n + 1
faults_after n event = n

unfoldable pub log_faults : History → ℕ
log_faults [] = 0
log_faults (e ∷ h) = faults_after (log_faults h) e.event

-- After these own entries of an actor, whose store began as `start`: the count of faults rose at least as often as
-- entries answer LogFault. Behind the bytes that it began with stand the frames of the entries that count, in their order, a
-- lease before the record that needs it. Where the last append failed and no restart came since, its records may stand
-- behind them, all or none.
pub record Logged (lease : ℕ) (h : History) (start now : Store) : Type 0 where
  pub faults : min (start.faults + log_faults h) (2 ^ 64 - 1) ≤ now.faults
  pub held : (now.held ≡ start.held ++ frames (logged_records lease h))
      ⊎ (now.held ≡ start.held ++ frames (logged_records lease h ++ failed_records lease h))

-- the same of each tablet and status tablet of a cluster
abbrev pub AllLogged : Config → History → (Actor → Store) → (Actor → Store) → Type 0
AllLogged config h start now = (a : Actor) → IsMachine config a → Logged config.lease_us (own a h) (start a) (now a)
