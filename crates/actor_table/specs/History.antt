-- The history of a stage: the entries of all actors in the order of their stamps, the oldest first.
use Rattle.std.specs.Prelude.{◌≡◌, ℕ, suc, ◌<◌, ◌^◌, eqb, Bool, true, false, List, [], ◌∷◌, Option, Some, None}
use mathlib.Core.Option.{some}
use lib.ListN.{get_elem?}
use Rattle.txn_data.specs.declared.entry.Entry.{Entry}
use Rattle.actor_table.specs.declared.message.Message.{Message}
use Rattle.actor_table.specs.declared.stamped_entry.StampedEntry.{StampedEntry}

-- the most actors of a stage
abbrev pub most_actors : ℕ
most_actors = 65536

-- the most entries of an actor
abbrev pub most_entries : ℕ
most_entries = 2 ^ 40

-- one entry of the history: the number of its actor, and the message that it used. Its stamp is its place.
pub record HistoryEntry : Type 0 where
  pub by : ℕ
  pub entry : Entry
  pub used : Option Message

abbrev pub with_stamp : ℕ → HistoryEntry → StampedEntry
with_stamp n e = record { stamp = n; entry = e.entry; used = e.used }

abbrev pub stamp_of : Option Message → Option ℕ
stamp_of None = None
stamp_of (Some m) = Some m.stamp

-- the message that an actor's entry makes
abbrev pub message_by : ℕ → StampedEntry → Message
message_by actor e = record { stamp = e.stamp; maker = actor; entry = e.entry; answers = stamp_of e.used }

abbrev pub message_of : ℕ → HistoryEntry → Message
message_of n e = message_by e.by (with_stamp n e)

-- the list, with the entry before it if the test is true
abbrev pub push : Bool → StampedEntry → List StampedEntry → List StampedEntry
push true e es = e ∷ es
push false e es = es

-- the entries of one actor, each with its stamp, if the first entry of the list has the stamp n
abbrev pub entries_from : ℕ → ℕ → List HistoryEntry → List StampedEntry
entries_from n actor [] = []
entries_from n actor (e ∷ es) = push (eqb e.by actor) (with_stamp n e) (entries_from (suc n) actor es)

-- the entries of one actor, each with its place in the history as its stamp
abbrev pub entries_of : ℕ → List HistoryEntry → List StampedEntry
entries_of actor history = entries_from 0 actor history

-- it is the message of the entry that has its stamp
abbrev pub IsMessage : List HistoryEntry → Message → Type 0
IsMessage history m = (e : HistoryEntry) × (get_elem? history m.stamp ≡ some e) × (m ≡ message_of m.stamp e)

-- the message that the entry at this place used, if any, is that of an earlier entry
abbrev pub UsesEarlier : List HistoryEntry → ℕ → Option Message → Type 0
UsesEarlier history k None = Unit {0}
UsesEarlier history k (Some m) = IsMessage history m × (m.stamp < k)

-- each entry is an actor's, a used message is that of an earlier entry, and no two entries used one message
pub record IsHistory (actors : ℕ) (history : List HistoryEntry) : Type 0 where
  pub makers : (k : ℕ) (e : HistoryEntry) → get_elem? history k ≡ some e → e.by < actors
  pub earlier : (k : ℕ) (e : HistoryEntry) → get_elem? history k ≡ some e → UsesEarlier history k e.used
  pub once : (j k : ℕ) (e f : HistoryEntry) (x y : Message) → get_elem? history j ≡ some e → get_elem? history k ≡ some f
      → e.used ≡ Some x → f.used ≡ Some y → x.stamp ≡ y.stamp → j ≡ k
