-- The parts of the seats of a closed stage, put into one by their stamps.
use Rattle.std.specs.Prelude.{◌≡◌, ℕ, List, map, reverse}
use Rattle.txn_data.specs.declared.actor.Actor.{Actor}
use Rattle.txn_data.specs.declared.entry.Entry.{Entry}
use Rattle.txn_data.specs.declared.config.Config.{Config}
use Rattle.txn_data.specs.declared.stamped1.Stamped1.{Stamped1}
use Rattle.txn_data.specs.declared.histories.Histories.{Histories}
use Rattle.txn_types.specs.Plan.{IsCluster}
use Rattle.txn_types.specs.Run.{Run}
use Rattle.actor_table.specs.declared.stamped_entry.StampedEntry.{StampedEntry}
use Rattle.actor_table.specs.Closed.{HaveHistory}
use Rattle.actor_table.specs.History.{HistoryEntry}
use Rattle.actor_table.specs.Values.{SeatValue}
use Rattle.trace_merge.specs.Merged.{stamped_of, NoStampTwice, IsMerged}
use Rattle.law_stamps.specs.Stamps.{SeatsKeep}

-- an entry with its stamp, without the message that it used
abbrev pub as_stamped : StampedEntry → Stamped1
as_stamped e = record { stamp = e.stamp; entry = e.entry }

-- the part of a seat: its entries with their stamps
abbrev pub part_of : List StampedEntry → List Stamped1
part_of entries = map as_stamped entries

-- the parts are those of these seats, in the order of the seats
abbrev pub ArePartsOf : Histories → List SeatValue → Type 0
ArePartsOf histories seats = histories.parts ≡ map (λ (s : SeatValue). part_of s.at.own) seats

-- in the parts of the seats of a closed stage no stamp stands twice, so that they may be merged
abbrev pub PartsMayBeMerged : Type 0
PartsMayBeMerged = (actors count : ℕ) (seats : List SeatValue) (histories : Histories) → HaveHistory actors count seats → ArePartsOf histories seats → NoStampTwice (stamped_of histories)

-- merged, they are the history of the stage, the oldest entry first
abbrev pub PartsAreTheHistory : Type 0
PartsAreTheHistory = (actors count : ℕ) (seats : List SeatValue) (histories : Histories) (list : List Entry) → (closed : HaveHistory actors count seats) → ArePartsOf histories seats → IsMerged (stamped_of histories) list
    → list ≡ map (λ (e : HistoryEntry). e.entry) closed.history

-- so, where each seat keeps its table, what is merged is a run, read from its newest entry back
abbrev pub MergedPartsMakeARun : Type 0
MergedPartsMakeARun = (config : Config) (actors count : ℕ) (name : ℕ → Actor) (seats : List SeatValue) (histories : Histories) (list : List Entry) → IsCluster config → HaveHistory actors count seats → SeatsKeep config actors name seats
    → ArePartsOf histories seats → IsMerged (stamped_of histories) list → Run config (reverse list)
