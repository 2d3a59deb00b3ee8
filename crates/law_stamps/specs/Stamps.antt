-- Entries in the order of their stamps, as a run.
use Rattle.std.specs.Prelude.{◌≡◌, ℕ, ◌<◌, List, map, reverse}
use mathlib.Core.Option.{some}
use lib.ListN.{get_elem?}
use Rattle.txn_data.specs.declared.actor.Actor.{Actor}
use Rattle.txn_data.specs.declared.config.Config.{Config}
use Rattle.txn_types.specs.History.{History, own}
use Rattle.txn_types.specs.Plan.{IsCluster}
use Rattle.txn_types.specs.Run.{Run}
use Rattle.law_parts.specs.Parts.{OwnSteps, MessagesMatch}
use Rattle.actor_table.specs.declared.stamped_entry.StampedEntry.{StampedEntry}
use Rattle.actor_table.specs.Closed.{HaveHistory}
use Rattle.actor_table.specs.History.{HistoryEntry, IsHistory}
use Rattle.actor_table.specs.Values.{SeatValue}
use Rattle.law_stamps.specs.Uses.{UsesAnswered}

-- the entries of a stage, the newest first
abbrev pub merged : List HistoryEntry → History
merged history = reverse (map (λ (e : HistoryEntry). e.entry) history)

-- each actor's own entries are allowed by its table, and each entry used the message that it answers
pub record KeepsTables (config : Config) (history : List HistoryEntry) : Type 0 where
  pub steps : (a : Actor) → OwnSteps config a (own a (merged history))
  pub uses : (k : ℕ) (e : HistoryEntry) → get_elem? history k ≡ some e → UsesAnswered e.entry.actor e.entry.event e.used

-- then what is served and heard is in flight
abbrev pub StampsMatch : Type 0
StampsMatch = (config : Config) (actors : ℕ) (history : List HistoryEntry) → IsHistory actors history → KeepsTables config history → MessagesMatch (merged history)

-- the entries of one seat, the newest first
abbrev pub made : List StampedEntry → History
made entries = reverse (map (λ (e : StampedEntry). e.entry) entries)

-- the entries of a seat are those of this actor, allowed by its table, and each used the message that it answers
pub record SeatKeeps (config : Config) (a : Actor) (entries : List StampedEntry) : Type 0 where
  pub actor : (k : ℕ) (e : StampedEntry) → get_elem? entries k ≡ some e → e.entry.actor ≡ a
  pub steps : OwnSteps config a (made entries)
  pub uses : (k : ℕ) (e : StampedEntry) → get_elem? entries k ≡ some e → UsesAnswered a e.entry.event e.used

-- each seat keeps its table, where name says which actor has each number, and no two numbers are one actor
pub record SeatsKeep (config : Config) (actors : ℕ) (name : ℕ → Actor) (seats : List SeatValue) : Type 0 where
  pub apart : (j k : ℕ) → j < actors → k < actors → name j ≡ name k → j ≡ k
  pub each : (k : ℕ) (s : SeatValue) → get_elem? seats k ≡ some s → SeatKeeps config (name s.at.actor) s.at.own

-- the entries of all seats of a closed stage, in the order of their stamps, are a run
abbrev pub SeatsMakeARun : Type 0
SeatsMakeARun = (config : Config) (actors count : ℕ) (name : ℕ → Actor) (seats : List SeatValue) → IsCluster config → (closed : HaveHistory actors count seats) → SeatsKeep config actors name seats → Run config (merged closed.history)
