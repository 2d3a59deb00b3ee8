-- One more entry of a mover's own.
use Rattle.std.proofs.Common.{◌≡◌, ℕ, Bool, true, false, [], ◌∷◌, ◌++◌, Option, Some, None, refl, ap, ◌∙◌}
use Rattle.txn_data.specs.declared.actor.Actor.{Actor}
use Rattle.txn_data.specs.declared.config.Config.{Config}
use Rattle.txn_data.specs.declared.entry.Entry.{Entry}
use Rattle.txn_data.specs.declared.event.Event.{Event}
use Rattle.txn_data.specs.declared.event.Event.TheVariants.{Start, Ask, Serve, Hear, Tell, Restarted}
use Rattle.txn_data.specs.declared.reply.Reply.{Reply}
use Rattle.txn_data.specs.declared.reply.Reply.TheVariants as reply
use Rattle.txn_data.specs.declared.refusal.Refusal.TheVariants as refusal
use Rattle.txn_types.specs.History.{History, same_actor}
use Rattle.txn_types.specs.Run.{Mover, Flight, Quiet, Asked, Answered, idle, mover_at, mover_after, flight_after}
use Rattle.txn_types.specs.Script.{lines, line_by}
use Rattle.law_machines.proofs.Basics.{same_of, same_refl}
use Rattle.law_parts.specs.Parts.{OwnAllowed, waits, waits_after}
use Rattle.mover_chain.specs.NextEvent.{NextEvent, is_left}
use Rattle.mover_seat.specs.Made.{MayMake, Makes}
use Rattle.mover_seat.specs.Stage.{awaited, is_waiting}
use Rattle.mover_seat.specs.Step.{HearsMemory, IsStep}
use Rattle.mover_seat.specs.declared.made.Made.{Made}

mover_same : (config : Config) (a : Actor) (e : Entry) (g : History) → same_actor e.actor a ≡ true → mover_at config a (e ∷ g) ≡ mover_after config a (mover_at config a g) e.reading e.event
unfolding mover_at
mover_same config a e g is = rw is refl

pub mover_more : (config : Config) (a : Actor) (e : Entry) (g : History) → e.actor ≡ a → mover_at config a (e ∷ g) ≡ mover_after config a (mover_at config a g) e.reading e.event
mover_more config a e g is = mover_same config a e g (same_of e.actor a is)

lines_same : (a : Actor) (e : Entry) (g : History) → same_actor e.actor a ≡ true → lines a (e ∷ g) ≡ lines a g ++ line_by e.event
unfolding lines
lines_same a e g is = rw is refl

pub lines_more : (a : Actor) (e : Entry) (g : History) → e.actor ≡ a → lines a (e ∷ g) ≡ lines a g ++ line_by e.event
lines_more a e g is = lines_same a e g (same_of e.actor a is)

waits_step : (e : Entry) (g : History) → waits (e ∷ g) ≡ waits_after (waits g) e.event
unfolding waits
waits_step e g = refl

-- the message on its way after an entry that a mover may make
waiting_after : (config : Config) (a : Actor) (m : Mover) (f : Flight) (reading : Option ℕ) (event : Event) → MayMake config a m f reading event → waits_after (is_waiting f) event ≡ is_waiting (flight_after a f a event)
waiting_after config a m f reading (Start number line) may = refl
waiting_after config a m f reading (Ask to asked) may = rw (same_refl a) refl
waiting_after config a m f reading (Hear from r) may = rw (same_refl a) refl
waiting_after config a m f reading (Tell number t) may = refl
waiting_after config a m f reading (Serve from asked r time append) may = absurd may
waiting_after config a m f reading (Restarted from kept) may = absurd may

pub waiting_more : (config : Config) (a : Actor) (m : Mover) (f : Flight) (e : Entry) (g : History) → waits g ≡ is_waiting f → MayMake config a m f e.reading e.event → waits (e ∷ g) ≡ is_waiting (flight_after a f a e.event)
waiting_more config a m f e g is may = waits_step e g ∙ ap (λ (b : Bool). waits_after b e.event) is ∙ waiting_after config a m f e.reading e.event may

-- what it may make is allowed over its own entries
allowed_of : (config : Config) (a : Actor) (g : History) (f : Flight) (reading : Option ℕ) (event : Event) → waits g ≡ is_waiting f → MayMake config a (mover_at config a g) f reading event → OwnAllowed config a g reading event
allowed_of config a g f reading (Start number line) is may = (may.0, may.1, may.2, may.3)
allowed_of config a g f reading (Ask to asked) is may = (may.0, is ∙ ap is_waiting may.1, may.2)
allowed_of config a g f reading (Hear from r) is may = (may.0, is ∙ ap is_waiting may.1)
allowed_of config a g f reading (Tell number t) is may = (may.0, is ∙ ap is_waiting may.1, may.2, may.3)
allowed_of config a g f reading (Serve from asked r time append) is may = absurd may
allowed_of config a g f reading (Restarted from kept) is may = absurd may

abbrev HeardIs : Flight → Event → Type 0
HeardIs f event = (from : Actor) (r : Reply) → event ≡ Hear from r → f ≡ Answered from r

heard_of : (config : Config) (a : Actor) (m : Mover) (f : Flight) (reading : Option ℕ) (event : Event) → MayMake config a m f reading event → HeardIs f event
heard_of config a m f reading (Start number line) may = λ from r e. cc
heard_of config a m f reading (Ask to asked) may = λ from r e. cc
heard_of config a m f reading (Hear by answer) may = λ from r e. let first : f ≡ Answered by answer = may.1 in cc
heard_of config a m f reading (Tell number t) may = λ from r e. cc
heard_of config a m f reading (Serve from asked r time append) may = absurd may
heard_of config a m f reading (Restarted from kept) may = absurd may

-- what is made is a step of the mover
pub step_is : (config : Config) (a by : Actor) (next : NextEvent) (reading : ℕ) (g : History) (f : Flight) (made : Made) → by ≡ a → waits g ≡ is_waiting f → Makes config a next (mover_at config a g) f reading made →
    IsStep config a next reading g f (record { entry = record { actor = by; reading = made.reading; event = made.event }; moved = made.moved })
step_is config a by next reading g f made is waiting makes = record {
  left = makes.left;
  actor = is;
  allowed = allowed_of config a g f made.reading made.event waiting makes.may;
  heard = heard_of config a (mover_at config a g) f made.reading made.event makes.may;
  starts = makes.starts;
  reads = makes.reads;
  moved = makes.moved;
}

-- ## out of memory in place of a reply

pub waits_asked : (f : Flight) (to : Actor) → awaited f ≡ Some to → is_waiting f ≡ true
waits_asked Quiet to is = cc
waits_asked (Asked by asked) to is = refl
waits_asked (Answered from r) to is = cc

-- where a reply came, it is heard next
pub only_hears : (config : Config) (a : Actor) (m : Mover) (to : Actor) (r : Reply) (reading : Option ℕ) (event : Event) → MayMake config a m (Answered to r) reading event → (reading ≡ None) × (event ≡ Hear to r)
only_hears config a m to r reading (Start number line) may = let never : Answered to r ≡ Quiet = may.4 in cc
only_hears config a m to r reading (Ask by asked) may = let never : Answered to r ≡ Quiet = may.1 in cc
only_hears config a m to r reading (Hear from q) may = let same : Answered to r ≡ Answered from q = may.1 in (may.0, cc)
only_hears config a m to r reading (Tell number t) may = let never : Answered to r ≡ Quiet = may.1 in cc
only_hears config a m to r reading (Serve from asked q time append) may = absurd may
only_hears config a m to r reading (Restarted from kept) may = absurd may

abbrev pub lost_reply : Reply
lost_reply = reply.Refused refusal.Memory

-- what is made then is heard in its place
pub memory_is : (config : Config) (a by : Actor) (next then_next : NextEvent) (reading : ℕ) (g : History) (to : Actor) (made : Made) → by ≡ a → is_left next ≡ true → waits g ≡ true → Makes config a then_next (mover_at config a g) (Answered to lost_reply) reading made →
    HearsMemory config a next g to (record { entry = record { actor = by; reading = made.reading; event = made.event }; moved = made.moved })
memory_is config a by next then_next reading g to made is left waiting makes =
    let hears = only_hears config a (mover_at config a g) to lost_reply made.reading made.event makes.may in
    record {
      left = left;
      actor = is;
      allowed = allowed_of config a g (Answered to lost_reply) made.reading made.event waiting makes.may;
      hears = hears.1;
      reading = hears.0;
      moved = makes.moved;
    }

-- ## before the first entry

pub mover_first : (config : Config) (a : Actor) → mover_at config a [] ≡ idle
unfolding mover_at
mover_first config a = refl

pub lines_first : (a : Actor) → lines a [] ≡ []
unfolding lines
lines_first a = refl

pub waits_first : waits [] ≡ false
unfolding waits
waits_first = refl
