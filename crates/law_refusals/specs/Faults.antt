-- Which entries answer a fault of the log, and after which a machine is down.
use Rattle.std.specs.Prelude.{◌≡◌, ℕ, List, ◌∷◌, ◌++◌, None, length}
use Rattle.txn_data.specs.declared.actor.Actor.{Actor}
use Rattle.txn_data.specs.declared.append.Append.{Append}
use Rattle.txn_data.specs.declared.request.Request.{Request}
use Rattle.txn_data.specs.declared.reply.Reply.{Reply}
use Rattle.txn_data.specs.declared.reply.Reply.TheVariants as reply
use Rattle.txn_data.specs.declared.refusal.Refusal.TheVariants as refusal
use Rattle.txn_data.specs.declared.event.Event.{Event}
use Rattle.txn_data.specs.declared.event.Event.TheVariants.{Serve, Restarted}
use Rattle.txn_data.specs.declared.entry.Entry.{Entry}
use Rattle.txn_types.specs.Lists.{Member}
use Rattle.txn_types.specs.History.{History, own}
use Rattle.txn_types.specs.Clock.{down_since}
use Rattle.txn_types.specs.Cause.{Fails, IsRestart}

-- What is served is answered LogFault exactly where its append failed; an entry that serves a Restart is a load that failed.
-- Unless it serves a Restart the machine was up, so no append or load of it had failed since its last restart.
pub record FaultIsTold (o : History) (asked : Request) (r : Reply) (append : Append) : Type 0 where
  pub told : Fails asked append → r ≡ reply.Refused refusal.LogFault
  pub failed : r ≡ reply.Refused refusal.LogFault → Fails asked append
  pub was_up : r ≡ reply.Refused refusal.LogFault → (IsRestart asked → ⊥) → down_since o ≡ None

abbrev pub AnswersFault : Event → Type 0
AnswersFault (Serve from asked (reply.Refused refusal.LogFault) time append) = Unit {0}
AnswersFault event = ⊥

abbrev pub IsRestarted : Event → Type 0
IsRestarted (Restarted from kept) = Unit {0}
IsRestarted event = ⊥

-- An entry of this actor answered LogFault, the first since its last restart, with this number among its own; and it was not
-- restarted after it.
pub record FirstFault (a : Actor) (since : ℕ) (h : History) : Type 0 where
  pub newer : List Entry
  pub fault : Entry
  pub older : History
  pub parts : h ≡ newer ++ (fault ∷ older)
  pub by : fault.actor ≡ a
  pub answers : AnswersFault fault.event
  pub number : length (own a (fault ∷ older)) ≡ since
  pub first : down_since (own a older) ≡ None
  pub no_restart : (e : Entry) → Member e newer → e.actor ≡ a → IsRestarted e.event → ⊥
