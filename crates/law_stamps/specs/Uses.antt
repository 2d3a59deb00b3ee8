-- Which message an entry makes, and which one it used.
use Rattle.std.specs.Prelude.{◌≡◌, Option, Some}
use Rattle.txn_data.specs.declared.actor.Actor.{Actor}
use Rattle.txn_data.specs.declared.event.Event.{Event}
use Rattle.txn_data.specs.declared.event.Event.TheVariants.{Ask, Serve, Hear, Restarted}
use Rattle.txn_data.specs.declared.request.Request.TheVariants as request
use Rattle.txn_data.specs.declared.reply.Reply.{Reply}
use Rattle.txn_data.specs.declared.reply.Reply.TheVariants as reply
use Rattle.txn_types.specs.Run.{Flight, Asked, Answered, CanHear}
use Rattle.actor_table.specs.declared.message.Message.{Message}

-- the message of an actor's event is this one of a mover on its way: its request, or the reply to it
abbrev pub Sends : Actor → Event → Actor → Flight → Type 0
Sends by (Ask to asked) mover f = (by ≡ mover) × (f ≡ Asked to asked)
Sends by (Serve from asked r time append) mover f = (from ≡ mover) × (f ≡ Answered by r)
Sends by (Restarted from kept) mover f = (from ≡ mover) × (f ≡ Answered by (reply.Restarted kept))
Sends by event mover f = ⊥

-- the message that was used is this one of a mover
pub record Uses (used : Option Message) (mover : Actor) (f : Flight) : Type 0 where
  pub message : Message
  pub is : used ≡ Some message
  pub sends : Sends message.entry.actor message.entry.event mover f

-- what was used says what a mover hears: it is the reply, or out of memory and the mover's own request
pub record HearsUsed (mover from : Actor) (r : Reply) (used : Option Message) : Type 0 where
  pub flight : Flight
  pub hears : CanHear flight from r
  pub uses : Uses used mover flight

-- an actor's event used the message that it answers: a machine the request, and a mover what it hears
abbrev pub UsesAnswered : Actor → Event → Option Message → Type 0
UsesAnswered by (Serve from asked r time append) used = Uses used from (Asked by asked)
UsesAnswered by (Restarted from kept) used = Uses used from (Asked by request.Restart)
UsesAnswered by (Hear from r) used = HearsUsed by from r used
UsesAnswered by event used = Unit {0}
