-- A run by its parts: what each actor may do over its own entries alone, and how messages match.
use Rattle.std.specs.Prelude.{◌≡◌, ℕ, ◌+◌, Bool, true, false, [], ◌∷◌, Option, None}
use Rattle.txn_data.specs.declared.actor.Actor.{Actor}
use Rattle.txn_data.specs.declared.event.Event.{Event}
use Rattle.txn_data.specs.declared.event.Event.TheVariants.{Start, Ask, Serve, Hear, Tell, Restarted}
use Rattle.txn_data.specs.declared.request.Request.TheVariants as request
use Rattle.txn_data.specs.declared.config.Config.{Config}
use Rattle.txn_data.specs.declared.entry.Entry.{Entry}
use Rattle.txn_types.specs.History.{History, own}
use Rattle.txn_types.specs.Program as program
use Rattle.txn_types.specs.Program.{turn_with}
use Rattle.txn_types.specs.Plan.{IsCluster}
use Rattle.txn_types.specs.Run.{Asked, flight, mover_at, CanHear, Serves, CanKeep, IsMachine, MayStart, CanTell, IsUnderWay, Run}

-- whether a mover waits for a reply, from its own entries
abbrev pub waits_after : Bool → Event → Bool
waits_after waits (Ask to asked) = true
waits_after waits (Hear from r) = false
waits_after waits event = waits

unfoldable pub waits : History → Bool
waits [] = false
waits (e ∷ h) = waits_after (waits h) e.event

-- what an actor may do next, over its own entries
abbrev pub OwnAllowed : Config → Actor → History → Option ℕ → Event → Type 0
OwnAllowed config a h reading (Start number line) =
    let m = mover_at config a h in
    (m.line ≡ None) × (number ≡ m.commands + 1) × (reading ≡ None) × MayStart config a m line
OwnAllowed config a h reading (Ask to asked) =
    let m = mover_at config a h in
    IsUnderWay m.line × (waits h ≡ false) × (turn_with m.rest reading ≡ program.Ask to asked)
OwnAllowed config a h reading (Serve from asked r time append) = IsMachine config a × Serves config.lease_us a h reading asked r time append
OwnAllowed config a h reading (Hear from r) = (reading ≡ None) × (waits h ≡ true)
OwnAllowed config a h reading (Tell number t) =
    let m = mover_at config a h in
    IsUnderWay m.line × (waits h ≡ false) × (number ≡ m.commands) × CanTell m reading t
OwnAllowed config a h reading (Restarted from kept) = IsMachine config a × (reading ≡ None) × CanKeep kept h

-- the entries of one actor, each allowed over those before it
unfoldable pub OwnSteps : Config → Actor → History → Type 0
OwnSteps config a [] = Unit {0}
OwnSteps config a (e ∷ h) = OwnSteps config a h × OwnAllowed config a h e.reading e.event

-- what a machine serves is in flight to it, and what a mover hears is the reply in flight to it, or out of memory for a
-- request that nobody served
abbrev pub Matches : Actor → Event → History → Type 0
Matches a (Serve from asked r time append) h = flight from h ≡ Asked a asked
Matches a (Hear from r) h = CanHear (flight a h) from r
Matches a (Restarted from kept) h = flight from h ≡ Asked a request.Restart
Matches a event h = Unit {0}

unfoldable pub MessagesMatch : History → Type 0
MessagesMatch [] = Unit {0}
MessagesMatch (e ∷ h) = MessagesMatch h × Matches e.actor e.event h

-- the parts of a history
pub record Parts (config : Config) (h : History) : Type 0 where
  pub cluster : IsCluster config
  pub actors : (a : Actor) → OwnSteps config a (own a h)
  pub messages : MessagesMatch h

abbrev pub PartsMakeARun : Type 0
PartsMakeARun = (config : Config) (h : History) → Parts config h → Run config h

abbrev pub RunsHaveParts : Type 0
RunsHaveParts = (config : Config) (h : History) → Run config h → Parts config h

-- a run with one entry more, which its actor may do over its own entries and which matches the messages, is a run
abbrev pub OneMoreIsARun : Type 0
OneMoreIsARun = (config : Config) (h : History) (e : Entry) → Run config h → OwnAllowed config e.actor (own e.actor h) e.reading e.event → Matches e.actor e.event h → Run config (e ∷ h)
