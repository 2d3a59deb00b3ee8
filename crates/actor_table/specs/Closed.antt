-- What is told of all seats of a stage when it is closed.
use Rattle.std.specs.Prelude.{◌≡◌, ◌≢◌, ℕ, ◌<◌, ◌≤◌, List, length, Some}
use mathlib.Core.Option.{some}
use lib.ListN.{get_elem?}
use Rattle.actor_table.specs.declared.message.Message.{Message}
use Rattle.actor_table.specs.declared.stamped_entry.StampedEntry.{StampedEntry}
use Rattle.actor_table.specs.declared.entry_count.EntryCount.{EntryCount}
use Rattle.actor_table.specs.declared.held.Held.{Held}
use Rattle.actor_table.specs.declared.held.Held.TheVariants.{Nothing, Made, Arrived}
use Rattle.actor_table.specs.History.{HistoryEntry, entries_of, message_by, IsMessage, IsHistory}
use Rattle.actor_table.specs.Rule.{SeenFits}
use Rattle.actor_table.specs.Values.{StageValue, SeatValue}

-- as many seats of this stage as it has actors: then they are all of them, since no seat is made twice
pub record AreAllOf (stage : StageValue) (seats : List SeatValue) : Type 0 where
  pub count : length seats ≡ stage.actors
  pub each : (k : ℕ) (s : SeatValue) → get_elem? seats k ≡ some s → s.table ≡ stage.table

-- ---- over the entries of the seats alone

-- the entry is the i-th of the k-th seat
pub record Stands (seats : List SeatValue) (k i : ℕ) (e : StampedEntry) : Type 0 where
  pub seat : SeatValue
  pub at : get_elem? seats k ≡ some seat
  pub there : get_elem? seat.at.own i ≡ some e

-- an entry of the seats has this stamp
pub record HasStamp (seats : List SeatValue) (n : ℕ) : Type 0 where
  pub seat : ℕ
  pub place : ℕ
  pub entry : StampedEntry
  pub stands : Stands seats seat place entry
  pub stamp : entry.stamp ≡ n

-- the stamps of all seats are the numbers below the count, each once, and those of each seat rise
pub record SharesStamps (count : ℕ) (seats : List SeatValue) : Type 0 where
  pub each : (n : ℕ) → n < count → HasStamp seats n
  pub below : (k i : ℕ) (e : StampedEntry) → Stands seats k i e → e.stamp < count
  pub once : (j k i l : ℕ) (e f : StampedEntry) → Stands seats j i e → Stands seats k l f → e.stamp ≡ f.stamp
      → (j ≡ k) × (i ≡ l)
  pub rises : (k i l : ℕ) (e f : StampedEntry) → Stands seats k i e → Stands seats k l f → i < l → e.stamp < f.stamp

-- it is the message of an entry of the seats
pub record IsMade (seats : List SeatValue) (m : Message) : Type 0 where
  pub seat : ℕ
  pub place : ℕ
  pub entry : StampedEntry
  pub stands : Stands seats seat place entry
  pub message : m ≡ message_by stands.seat.at.actor entry

-- a message that an entry used was made by an entry with a smaller stamp, and no other entry used it
pub record UsesOnce (seats : List SeatValue) : Type 0 where
  pub made : (k i : ℕ) (e : StampedEntry) (m : Message) → Stands seats k i e → e.used ≡ Some m
      → IsMade seats m × (m.stamp < e.stamp)
  pub once : (j k i l : ℕ) (e f : StampedEntry) (x y : Message) → Stands seats j i e → Stands seats k l f
      → e.used ≡ Some x → f.used ≡ Some y → x.stamp ≡ y.stamp → (j ≡ k) × (i ≡ l)

-- a seat has at least so many entries as the count says of its actor
pub record IsWithin (seats : List SeatValue) (c : EntryCount) : Type 0 where
  pub place : ℕ
  pub seat : SeatValue
  pub at : get_elem? seats place ≡ some seat
  pub actor : seat.at.actor ≡ c.actor
  pub made : c.made ≤ length seat.at.own

-- no count that a seat has seen is above the number of entries of the actor that it names
abbrev pub SeesNoMore : List SeatValue → Type 0
SeesNoMore seats = (k : ℕ) (s : SeatValue) (c : EntryCount) → get_elem? seats k ≡ some s → s.at.seen ≡ Some c → IsWithin seats c

-- ---- over the history

-- it is a message of the history that no entry used
pub record IsUnused (history : List HistoryEntry) (m : Message) : Type 0 where
  pub message : IsMessage history m
  pub unused : (k : ℕ) (e : HistoryEntry) (x : Message) → get_elem? history k ≡ some e → e.used ≡ Some x
      → x.stamp ≢ m.stamp

abbrev pub HoldsUnused : List HistoryEntry → Held → Type 0
HoldsUnused history Nothing = Unit {0}
HoldsUnused history (Made m) = IsUnused history m
HoldsUnused history (Arrived m) = IsUnused history m

-- the entries of these seats, each with its place as its stamp, are this history. Each actor has just one of the seats
pub record AreOf (actors : ℕ) (history : List HistoryEntry) (seats : List SeatValue) : Type 0 where
  pub own : (k : ℕ) (s : SeatValue) → get_elem? seats k ≡ some s → s.at.own ≡ entries_of s.at.actor history
  pub actor : (k : ℕ) (s : SeatValue) → get_elem? seats k ≡ some s → s.at.actor < actors
  pub apart : (j k : ℕ) (s t : SeatValue) → get_elem? seats j ≡ some s → get_elem? seats k ≡ some t
      → s.at.actor ≡ t.at.actor → j ≡ k
  pub all : (a : ℕ) → a < actors → (k : ℕ) × (s : SeatValue) × (get_elem? seats k ≡ some s) × (s.at.actor ≡ a)
  pub held : (k : ℕ) (s : SeatValue) → get_elem? seats k ≡ some s → HoldsUnused history s.at.held
  pub seen : (k : ℕ) (s : SeatValue) → get_elem? seats k ≡ some s → SeenFits actors history s.at.seen

-- the entries of the seats, in the order of their stamps, are one history of so many entries
pub record HaveHistory (actors count : ℕ) (seats : List SeatValue) : Type 0 where
  pub history : List HistoryEntry
  pub count_is : length history ≡ count
  pub is_history : IsHistory actors history
  pub are_of : AreOf actors history seats
