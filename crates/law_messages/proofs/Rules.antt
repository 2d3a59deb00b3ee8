-- What is to hold of movers in every run, as rules that a proof chooses: what the history keeps, what a request that is
-- served has behind it, what a session rests on between two commands, and what a told command has behind it.
use Rattle.std.proofs.Common.{◌≡◌, ℕ, Bool, ◌&&◌, List, ◌∷◌, Option, Some, None, inr, true}
use Rattle.txn_data.specs.declared.actor.Actor.{Actor}
use Rattle.txn_data.specs.declared.tablet_limit.TabletLimit.{TabletLimit}
use Rattle.txn_data.specs.declared.request.Request.{Request}
use Rattle.txn_data.specs.declared.reply.Reply.{Reply}
use Rattle.txn_data.specs.declared.reply.Reply.TheVariants as reply
use Rattle.txn_data.specs.declared.refusal.Refusal.TheVariants as refusal
use Rattle.txn_data.specs.declared.told.Told.{Told}
use Rattle.txn_data.specs.declared.told.Told.TheVariants as told
use Rattle.txn_data.specs.declared.told_refusal.ToldRefusal.TheVariants as told_refusal
use Rattle.txn_data.specs.declared.command.Command.{Command}
use Rattle.txn_data.specs.declared.config.Config.{Config}
use Rattle.txn_data.specs.declared.event.Event.{Event}
use Rattle.txn_data.specs.declared.event.Event.TheVariants.{Serve, Restarted}
use Rattle.txn_data.specs.declared.entry.Entry.{Entry}
use Rattle.txn_types.specs.Lists.{Member, or_else}
use Rattle.txn_types.specs.History.{History}
use Rattle.txn_types.specs.Session.{Keeps, keeps_after}
use Rattle.txn_types.specs.Run.{Mover, Allowed, Steps, limits_after, may_lose_after, session_of, limits_of}

-- a mover's command under way, but for what is left of it
pub record Stage : Type 0 where
  pub keeps : Keeps
  pub line : Option Command
  pub reading : Option ℕ
  pub limits : List TabletLimit
  pub may_lose : Bool

abbrev pub stage_of : Mover → Stage
stage_of s = record { keeps = s.keeps; line = s.line; reading = s.reading; limits = s.limits; may_lose = s.may_lose }

-- at its start
abbrev pub started : Keeps → Command → Stage
started s line = record { keeps = s; line = Some line; reading = None; limits = limits_of s.opened; may_lose = true }

-- what it keeps once this is told
abbrev pub kept_line : Config → Actor → Stage → Option Command → Told → Keeps
kept_line config m c None t = c.keeps
kept_line config m c (Some line) t = keeps_after config (session_of m) c.keeps line c.reading c.limits t

abbrev pub kept : Config → Actor → Stage → Told → Keeps
kept config m c t = kept_line config m c c.line t

-- once it heard a reply, or asked with a reading
abbrev pub hears : Actor → Stage → Actor → Reply → Stage
hears m c from r = record c { limits = limits_after c.limits from r; may_lose = c.may_lose && may_lose_after m r }

abbrev pub with_own : Stage → Option ℕ → Stage
with_own c reading = record c { reading = or_else c.reading reading }

abbrev pub no_memory : Reply
no_memory = reply.Refused refusal.Memory

abbrev pub told_memory : Told
told_memory = told.Refused told_refusal.Memory

abbrev pub entry : Actor → Option ℕ → Event → Entry
entry a reading event = record { actor = a; reading = reading; event = event }

-- a reading that a mover recorded
abbrev pub Recorded : ℕ → Actor → History → Type 0
Recorded reading m h = (e : Entry) × Member e h × (e.actor ≡ m) × (e.reading ≡ Some reading)

-- the entry answers a request of the mover
abbrev pub IsFor : Actor → Event → Type 0
IsFor m (Serve from asked r time append) = from ≡ m
IsFor m (Restarted from kept) = from ≡ m
IsFor m event = ⊥

pub record Rules : Type 1 where
  -- what the history keeps
  pub Base : History → Type 0
  -- what a request of a mover to an actor has behind it where it is served
  pub Good : History → Actor → Actor → Request → Type 0
  -- what a mover rests on between two commands
  pub Idle : History → Actor → Keeps → Type 0
  -- what a command that began over this history has behind it where this is told
  pub Ends : History → Actor → History → Stage → Told → Type 0

abbrev pub GoodServe : Rules → History → Actor → Event → Type 0
GoodServe R h a (Serve from asked r time append) = R.Good h from a asked
GoodServe R h a event = Unit {0}

-- an entry that is allowed, and that serves a good request
pub record IsFine (R : Rules) (config : Config) (h : History) (e : Entry) : Type 0 where
  pub steps : Steps config h
  pub allowed : Allowed config h e.actor e.reading e.event
  pub good : GoodServe R h e.actor e.event

-- fine entries, none of which answers m
pub data Later (R : Rules) (config : Config) (m : Actor) (h : History) : History → Type 0 where
  Now : Later R config m h h
  Then : (g : History) (e : Entry) → Later R config m h g → R.Base g → IsFine R config g e → (IsFor m e.event → ⊥) → Later R config m h (e ∷ g)

pub later_trans : (R : Rules) (config : Config) (m : Actor) (h g f : History) → Later R config m h g → Later R config m g f → Later R config m h f
later_trans R config m h g _ one Now = one
later_trans R config m h g _ one (Then f e two base fine other) = Then f e (later_trans R config m h g f one two) base fine other

-- what each fine entry of the others keeps lasts
pub lasts : (R : Rules) (config : Config) (m : Actor) (F : History → Type 0) →
    ((g : History) (e : Entry) → R.Base g → IsFine R config g e → (IsFor m e.event → ⊥) → F g → F (e ∷ g)) →
    (h g : History) → Later R config m h g → F h → F g
lasts R config m F step h _ Now f = f
lasts R config m F step h _ (Then g e later base fine other) f = step g e base fine other (lasts R config m F step h g later f)

-- what is recorded stays so
pub recorded_step : (reading : ℕ) (m : Actor) (e : Entry) (h : History) → Recorded reading m h → Recorded reading m (e ∷ h)
recorded_step reading m e h r = (r.0, inr r.1, r.2, r.3)
