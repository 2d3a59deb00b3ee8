-- What the refusals of machines say, in every run.
use Rattle.std.specs.Prelude.{ℕ, Option}
use Rattle.txn_data.specs.declared.actor.Actor.{Actor}
use Rattle.txn_data.specs.declared.append.Append.{Append}
use Rattle.txn_data.specs.declared.config.Config.{Config}
use Rattle.txn_data.specs.declared.request.Request.{Request}
use Rattle.txn_data.specs.declared.reply.Reply.{Reply}
use Rattle.txn_data.specs.declared.reply.Reply.TheVariants as reply
use Rattle.txn_data.specs.declared.refusal.Refusal.{Refusal}
use Rattle.txn_data.specs.declared.refusal.Refusal.TheVariants as refusal
use Rattle.txn_data.specs.declared.event.Event.TheVariants.{Serve}
use Rattle.txn_types.specs.History.{History, own}
use Rattle.txn_types.specs.Run.{Run}
use Rattle.law_machines.specs.Own.{StandsOver}
use Rattle.law_refusals.specs.Refusals.{Explains}
use Rattle.law_refusals.specs.Faults.{FaultIsTold, FirstFault}

-- each refusal that a machine serves is explained by the entries that it had of its own
abbrev pub RefusalsAreExplained : Type 0
RefusalsAreExplained = (config : Config) (h before : History) (a from : Actor) (reading time : Option ℕ) (asked : Request) (why : Refusal) (append : Append) → Run config h →
    StandsOver (record { actor = a; reading = reading; event = Serve from asked (reply.Refused why) time append }) before h → Explains config.lease_us (own a before) reading asked append why

-- a fault of the log is answered exactly where an append or a load failed, and no second one without a restart
abbrev pub FaultsAreTold : Type 0
FaultsAreTold = (config : Config) (h before : History) (a from : Actor) (reading time : Option ℕ) (asked : Request) (r : Reply) (append : Append) → Run config h →
    StandsOver (record { actor = a; reading = reading; event = Serve from asked r time append }) before h → FaultIsTold (own a before) asked r append

-- Down is answered only after a fault of the log of the same actor, which was not restarted since
abbrev pub DownAfterFault : Type 0
DownAfterFault = (config : Config) (h before : History) (a from : Actor) (reading time : Option ℕ) (asked : Request) (since : ℕ) (append : Append) → Run config h →
    StandsOver (record { actor = a; reading = reading; event = Serve from asked (reply.Refused (refusal.Down since)) time append }) before h → FirstFault a since before
