-- What is asked may be served, in every run.
use Rattle.std.specs.Prelude.{◌≡◌, ℕ, List, ◌∷◌, Option, Some}
use Rattle.txn_data.specs.declared.actor.Actor.{Actor}
use Rattle.txn_data.specs.declared.append.Append.{Append}
use Rattle.txn_data.specs.declared.found.Found.{Found}
use Rattle.txn_data.specs.declared.refusal.Refusal.TheVariants as refusal
use Rattle.txn_data.specs.declared.reply.Reply.{Reply}
use Rattle.txn_data.specs.declared.reply.Reply.TheVariants as reply
use Rattle.txn_data.specs.declared.request.Request.{Request}
use Rattle.txn_data.specs.declared.request.Request.TheVariants as request
use Rattle.txn_data.specs.declared.command.Command.{Command}
use Rattle.txn_data.specs.declared.config.Config.{Config}
use Rattle.txn_data.specs.declared.event.Event.TheVariants.{Serve}
use Rattle.txn_data.specs.declared.entry.Entry.{Entry}
use Rattle.txn_types.specs.Lists.{Member}
use Rattle.txn_types.specs.History.{History, own}
use Rattle.txn_types.specs.Run.{Asked, flight, mover_at, Serves, Run}
use Rattle.law_requests.specs.Requests.{IsOfLine, IsServable}

-- a request in flight is of the line under way, and a machine may serve it
abbrev pub RequestsMayBeServed : Type 0
RequestsMayBeServed = (config : Config) (h : History) (m to : Actor) (asked : Request) → Run config h → flight m h ≡ Asked to asked →
    (line : Command) × ((mover_at config m h).line ≡ Some line) × IsOfLine line to asked × IsServable config to asked

-- an entry that serves it by the machine's table makes a run again
abbrev pub ServingIsAllowed : Type 0
ServingIsAllowed = (config : Config) (h : History) (m to : Actor) (asked : Request) (reading : Option ℕ) (r : Reply) (time : Option ℕ) (append : Append) → Run config h →
    flight m h ≡ Asked to asked → Serves config.lease_us to (own to h) reading asked r time append →
    Run config ((record { actor = to; reading = reading; event = Serve m asked r time append }) ∷ h)

-- no entry that serves has the reply out of memory
abbrev pub NoEntryIsOutOfMemory : Type 0
NoEntryIsOutOfMemory = (config : Config) (h : History) (e : Entry) (from : Actor) (asked : Request) (time : Option ℕ) (append : Append) → Run config h → Member e h →
    e.event ≡ Serve from asked (reply.Refused refusal.Memory) time append → ⊥

abbrev pub IsListing : Request → Type 0
IsListing (request.ListRead own_txn paths t g limit) = Unit {0}
IsListing asked = ⊥

-- a list for a read is the reply to a listing for a read alone
abbrev pub ListsAnswerListings : Type 0
ListsAnswerListings = (config : Config) (h : History) (e : Entry) (from : Actor) (asked : Request) (limit : ℕ) (others : List Found) (time : Option ℕ) (append : Append) → Run config h → Member e h →
    e.event ≡ Serve from asked (reply.Listed limit others) time append → IsListing asked
