-- What holds of transactions and their sessions and status tablets in every run.
use Rattle.std.specs.Prelude.{◌≡◌, ℕ, ◌<◌, List, Option, Some}
use Rattle.txn_data.specs.declared.actor.Actor.{Actor}
use Rattle.txn_data.specs.declared.append.Append.{Append}
use Rattle.txn_data.specs.declared.config.Config.{Config}
use Rattle.txn_data.specs.declared.fate.Fate.TheVariants as fate
use Rattle.txn_data.specs.declared.request.Request.TheVariants as request
use Rattle.txn_data.specs.declared.reply.Reply.{Reply}
use Rattle.txn_data.specs.declared.reply.Reply.TheVariants as reply
use Rattle.txn_data.specs.declared.event.Event.TheVariants.{Serve}
use Rattle.txn_data.specs.declared.entry.Entry.{Entry}
use Rattle.txn_types.specs.Lists.{Member}
use Rattle.txn_types.specs.History.{History}
use Rattle.txn_types.specs.Run.{Run}
use Rattle.law_machines.specs.Own.{StandsOver}
use Rattle.law_owners.specs.Owner.{IsHomedAt, Uses, IsUnused}

-- each request that is served is one of the actor's own table, by the transaction's own session where it is its own to
-- ask, at the transaction's own status tablet where it is about its record
abbrev pub RequestsAreHomed : Type 0
RequestsAreHomed = (config : Config) (h : History) (e : Entry) → Run config h → Member e h → IsHomedAt config e.actor e.event

-- an id is used once
abbrev pub IdsAreUsedOnce : Type 0
IdsAreUsedOnce = (config : Config) (h before : History) (e : Entry) (x : ℕ) → Run config h → StandsOver e before h → Uses x e.event → IsUnused x before

-- where a transaction was told Pending to a question at t, it commits later only above t, wherever either was asked
abbrev pub PendingIsKept : Type 0
PendingIsKept = (config : Config) (h before : History) (j k : Entry) (m n : Actor) (x t floor c : ℕ) (tablets : List ℕ) (r : Reply)
    (time : Option ℕ) (append after : Append) → Run config h → StandsOver k before h → Member j before →
    j.event ≡ Serve m (request.AskFate x t) (reply.FateIs fate.Pending) time append →
    k.event ≡ Serve n (request.Commit x floor tablets) r (Some c) after → t < c
