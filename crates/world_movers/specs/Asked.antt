-- Where the entry stands that asked for what is on its way, and what answers it.
use Rattle.std.specs.Prelude.{◌≡◌, ℕ, List, [], ◌∷◌, ◌++◌, Some, length}
use Rattle.txn_data.specs.declared.actor.Actor.{Actor}
use Rattle.txn_data.specs.declared.config.Config.{Config}
use Rattle.txn_data.specs.declared.entry.Entry.{Entry}
use Rattle.txn_data.specs.declared.event.Event.{Event}
use Rattle.txn_data.specs.declared.event.Event.TheVariants.{Ask}
use Rattle.txn_data.specs.declared.reply.Reply.{Reply}
use Rattle.txn_data.specs.declared.request.Request.{Request}
use Rattle.txn_types.specs.History.{History, own}
use Rattle.txn_types.specs.Run.{Flight, Quiet, Asked, Answered, IsMachine, flight}
use Rattle.txn_types.specs.Script.{asker}
use Rattle.mover_seat.specs.Stage.{awaited}
use Rattle.world_movers.specs.declared.asking.Asking.{Asking}

-- an entry of a history, with so many before it
pub record IsAt (h : History) (place : ℕ) (e : Entry) : Type 0 where
  pub later : History
  pub earlier : History
  pub parts : h ≡ later ++ e ∷ earlier
  pub before : length earlier ≡ place

-- the entry at this place asked for what is on its way
abbrev pub AskedAt : History → ℕ → Flight → Type 0
AskedAt h place f = (to : Actor) (asked : Request) → f ≡ Asked to asked → (e : Entry) × IsAt h place e × (e.event ≡ Ask to asked)

-- where the entry stands that asked last, after this event at a place
abbrev pub place_after : Event → ℕ → ℕ → ℕ
place_after (Ask to asked) place before = place
place_after event place before = before

-- a request of mover `a` is on its way, and its entry stands there
pub record IsAsking (h : History) (a : Actor) (asking : Asking) : Type 0 where
  pub request : Request
  pub flight : flight a h ≡ Asked asking.to request
  pub entry : Entry
  pub at : IsAt h asking.at entry
  pub asks : entry.event ≡ Ask asking.to request

-- the entry answers mover `a`, after this history: it is of the machine that was asked
pub record IsAnswer (config : Config) (h : History) (a : Actor) (reply : Reply) (e : Entry) : Type 0 where
  pub machine : IsMachine config e.actor
  pub asked : awaited (flight a h) ≡ Some e.actor
  pub asker : asker e ≡ a
  pub answered : flight a (e ∷ h) ≡ Answered e.actor reply

-- a mover that is not there: it made no entry, and no message of it is on its way
pub record IsSilent (h : History) (a : Actor) : Type 0 where
  pub own : own a h ≡ []
  pub flight : flight a h ≡ Quiet
