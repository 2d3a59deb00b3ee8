-- What each step does to a view.
use Rattle.std.specs.Prelude.{◌≡◌, ℕ, max, ◌+◌, ◌-◌, ◌*◌, ◌<◌, ◌≤◌, List, [], ◌∷◌, ◌++◌, length, Option, Some, None, Bool, true, false}
use Rattle.atomic_table.specs.Table.{Me, Step}
use Rattle.txn_data.specs.declared.actor.Actor.TheVariants.{Tablet}
use Rattle.txn_data.specs.declared.event.Event.TheVariants.{Restarted}
use Rattle.txn_data.specs.declared.entry.Entry.{Entry}
use Rattle.actor_table.specs.declared.message.Message.{Message}
use Rattle.actor_table.specs.declared.stamped_entry.StampedEntry.{StampedEntry}
use Rattle.actor_table.specs.declared.gathered_seat.GatheredSeat.{GatheredSeat}
use Rattle.actor_table.specs.declared.held.Held.{Held}
use Rattle.actor_table.specs.declared.held.Held.TheVariants.{Nothing, Made, Arrived}
use Rattle.actor_table.specs.declared.seat_view.SeatView.{SeatView}
use Rattle.actor_table.specs.declared.note_view.NoteView.{NoteView}
use Rattle.actor_table.specs.declared.view.View.{View}
use Rattle.actor_table.specs.declared.view.View.TheVariants.{Spent, Sits, Carries}
use Rattle.actor_table.specs.History.{most_actors, most_entries, message_by}

-- an entry for a place that nothing reads
abbrev pub no_entry : Entry
no_entry = record { actor = Tablet 0; reading = None; event = Restarted (Tablet 0) false }

-- ---- seats are dealt

-- a seat of this actor that made nothing and holds nothing, and may deal the seats of the actors from next up to its own
abbrev pub newcomer : ℕ → ℕ → SeatView
newcomer actor next = record { actor = actor; next = next; own = []; known = 0; gathered = []; held = Nothing; seen = None }

-- the first seat is that of the last actor
abbrev pub opening_view : ℕ → View
opening_view actors = Sits (newcomer (actors - 1) 0)

abbrev pub deal_view : View → View
deal_view Spent = Spent
deal_view (Sits v) = Sits record v { next = v.next + 1 }
deal_view (Carries n) = Carries n

abbrev pub dealt_view : View → View
dealt_view Spent = Spent
dealt_view (Sits v) = Sits (newcomer v.next v.next)
dealt_view (Carries n) = Spent

-- ---- a seat stamps an entry

-- the message that arrived
abbrev pub arrived : Held → Option Message
arrived Nothing = None
arrived (Made m) = None
arrived (Arrived m) = Some m

abbrev pub has_arrived : Held → Bool
has_arrived Nothing = false
has_arrived (Made m) = false
has_arrived (Arrived m) = true

-- the entry with its stamp, which uses the message that arrived
abbrev pub entry_at : ℕ → Entry → SeatView → StampedEntry
entry_at n e v = record { stamp = n; entry = e; used = arrived v.held }

-- after an entry with this stamp: it is the seat's last, and the seat holds its message
abbrev pub after_act : ℕ → Entry → SeatView → SeatView
after_act n e v = record v {
  own = v.own ++ entry_at n e v ∷ [];
  known = n + 1;
  held = Made (message_by v.actor (entry_at n e v));
}

abbrev pub act_view : ℕ → Entry → View → View
act_view n e Spent = Spent
act_view n e (Sits v) = Sits (after_act n e v)
act_view n e (Carries c) = Carries c

-- the stamps of these entries are below a number
abbrev pub AreBelow : ℕ → List StampedEntry → Type 0
AreBelow n [] = Unit {0}
AreBelow n (e ∷ es) = (e.stamp < n) × AreBelow n es

-- the stamp of the message, if there is one, is below a number
abbrev pub IsBelow : ℕ → Option Message → Type 0
IsBelow n None = Unit {0}
IsBelow n (Some m) = m.stamp < n

-- a stamp is above those of the seat's entries, is not known to be given, is above that of the message that arrived, and
-- fits the word
pub record StampFits (n : ℕ) (v : SeatView) : Type 0 where
  pub rises : AreBelow n v.own
  pub later : v.known ≤ n
  pub answers : IsBelow n (arrived v.held)
  pub bound : n < most_actors * most_entries

abbrev pub StampFitsView : ℕ → View → Type 0
StampFitsView n Spent = Unit {0}
StampFitsView n (Sits v) = StampFits n v
StampFitsView n (Carries c) = Unit {0}

-- what the step tells: the number found is the stamp
abbrev pub Acts : Entry → Step (Unit {0}) → Me (Unit {0}) View → ℕ → Me (Unit {0}) View → Type 0
Acts e step before n after = (after ≡ (act_view n e before.0, before.1)) × StampFitsView n before.0

-- ---- a message leaves with a note

abbrev pub no_message : Message
no_message = record { stamp = 0; maker = 0; entry = no_entry; answers = None }

-- the message that a seat holds
abbrev pub held_message : Held → Message
held_message Nothing = no_message
held_message (Made m) = m
held_message (Arrived m) = m

abbrev pub has_message : Held → Bool
has_message Nothing = false
has_message (Made m) = true
has_message (Arrived m) = true

-- the note that leaves a seat: its message, and how many entries the sender made
abbrev pub note_from : SeatView → NoteView
note_from v = record { message = held_message v.held; count = record { actor = v.actor; made = length v.own } }

abbrev pub after_leave : SeatView → SeatView
after_leave v = record v { held = Nothing }

abbrev pub leave_view : View → View
leave_view Spent = Spent
leave_view (Sits v) = Sits (after_leave v)
leave_view (Carries n) = Carries n

abbrev pub left_view : View → View
left_view Spent = Spent
left_view (Sits v) = Carries (note_from v)
left_view (Carries n) = Spent

-- ---- a note arrives

-- the seat holds the message, knows that its stamp is given, and has seen the sender's count
abbrev pub after_arrive : SeatView → NoteView → SeatView
after_arrive v n = record v {
  known = max v.known (n.message.stamp + 1);
  held = Arrived n.message;
  seen = Some n.count;
}

abbrev pub arrive_at : SeatView → View → View
arrive_at v Spent = Sits v
arrive_at v (Sits w) = Sits v
arrive_at v (Carries n) = Sits (after_arrive v n)

abbrev pub arrive_view : View → View → View
arrive_view Spent w = Spent
arrive_view (Sits v) w = arrive_at v w
arrive_view (Carries n) w = Carries n

-- ---- seats are gathered

abbrev pub gathered_of : SeatView → GatheredSeat
gathered_of v = record { actor = v.actor; own = v.own; held = v.held; seen = v.seen }

abbrev pub after_gather : SeatView → SeatView → SeatView
after_gather v w = record v { gathered = gathered_of w ∷ v.gathered }

abbrev pub gather_at : SeatView → View → View
gather_at v Spent = Sits v
gather_at v (Sits w) = Sits (after_gather v w)
gather_at v (Carries n) = Sits v

abbrev pub gather_view : View → View → View
gather_view Spent w = Spent
gather_view (Sits v) w = gather_at v w
gather_view (Carries n) w = Carries n
