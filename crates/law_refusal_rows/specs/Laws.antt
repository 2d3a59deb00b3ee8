-- Where a request meets the row of a refusal, it is refused so, in every run.
use Rattle.std.specs.Prelude.{◌≡◌, ℕ, Option}
use Rattle.txn_data.specs.declared.actor.Actor.{Actor}
use Rattle.txn_data.specs.declared.append.Append.{Append}
use Rattle.txn_data.specs.declared.config.Config.{Config}
use Rattle.txn_data.specs.declared.request.Request.{Request}
use Rattle.txn_data.specs.declared.reply.Reply.{Reply}
use Rattle.txn_data.specs.declared.reply.Reply.TheVariants as reply
use Rattle.txn_data.specs.declared.refusal.Refusal.{Refusal}
use Rattle.txn_data.specs.declared.event.Event.TheVariants.{Serve}
use Rattle.txn_types.specs.History.{History, own}
use Rattle.txn_types.specs.Run.{Run}
use Rattle.txn_promises.specs.Refuses.{Meets}
use Rattle.law_machines.specs.Own.{StandsOver}

-- a machine that serves a request which meets the row, over the entries that it had of its own, refuses it so
abbrev pub RowsAreRefused : Type 0
RowsAreRefused = (config : Config) (h before : History) (a from : Actor) (reading time : Option ℕ) (asked : Request) (r : Reply) (append : Append) (why : Refusal) → Run config h →
    StandsOver (record { actor = a; reading = reading; event = Serve from asked r time append }) before h → Meets config.lease_us (own a before) reading asked why → r ≡ reply.Refused why
