-- The rule of a stage's table. There is one history, whose length is the word. Each seat knows the entries of its actor in
-- it, each actor has one keeper, and each message is in one place.
use Rattle.std.specs.Prelude.{◌≡◌, ◌≢◌, ℕ, ◌<◌, ◌≤◌, List, [], ◌∷◌, length, Option, Some, None}
use mathlib.Core.Option.{some}
use lib.ListN.{get_elem?}
use Rattle.actor_table.specs.declared.message.Message.{Message}
use Rattle.actor_table.specs.declared.entry_count.EntryCount.{EntryCount}
use Rattle.actor_table.specs.declared.gathered_seat.GatheredSeat.{GatheredSeat}
use Rattle.actor_table.specs.declared.held.Held.{Held}
use Rattle.actor_table.specs.declared.held.Held.TheVariants.{Nothing, Made, Arrived}
use Rattle.actor_table.specs.declared.seat_view.SeatView.{SeatView}
use Rattle.actor_table.specs.declared.view.View.{View}
use Rattle.actor_table.specs.declared.view.View.TheVariants.{Spent, Sits, Carries}
use Rattle.actor_table.specs.History.{HistoryEntry, most_actors, most_entries, entries_of, IsMessage}

-- where a message is: with the view of this number, or used by the entry of this stamp
pub data Spot : Type 0 where
  held_by : ℕ → Spot
  used_by : ℕ → Spot

-- the message that the entry of stamp k used, if any, is that of an earlier entry, and is where this entry used it
abbrev pub Uses : List HistoryEntry → (ℕ → Spot) → ℕ → Option Message → Type 0
Uses history spot k None = Unit {0}
Uses history spot k (Some m) = IsMessage history m × (m.stamp < k) × (spot m.stamp ≡ used_by k)

-- the word is the number of stamps given, and the entries are those of actors, few enough for the word
pub record Runs (actors : ℕ) (words : List ℕ) (history : List HistoryEntry) (spot : ℕ → Spot) : Type 0 where
  pub word : words ≡ length history ∷ []
  pub few : actors ≤ most_actors
  pub makers : (k : ℕ) (e : HistoryEntry) → get_elem? history k ≡ some e → e.by < actors
  pub counts : (a : ℕ) → length (entries_of a history) ≤ most_entries
  pub uses : (k : ℕ) (e : HistoryEntry) → get_elem? history k ≡ some e → Uses history spot k e.used

-- a count that was seen is that of an actor, and not above the number of its entries
abbrev pub SeenFits : ℕ → List HistoryEntry → Option EntryCount → Type 0
SeenFits actors history None = Unit {0}
SeenFits actors history (Some c) = (c.actor < actors) × (c.made ≤ length (entries_of c.actor history))

-- the view of this number has this message
abbrev pub Has : List HistoryEntry → (ℕ → Spot) → ℕ → Message → Type 0
Has history spot by m = IsMessage history m × (spot m.stamp ≡ held_by by)

abbrev pub HeldFits : List HistoryEntry → (ℕ → Spot) → ℕ → Held → Type 0
HeldFits history spot by Nothing = Unit {0}
HeldFits history spot by (Made m) = Has history spot by m
HeldFits history spot by (Arrived m) = Has history spot by m

-- what a seat knew that the view of this number took in
pub record GatheredFits (actors : ℕ) (history : List HistoryEntry) (keeper : ℕ → ℕ) (spot : ℕ → Spot) (by : ℕ) (g : GatheredSeat) : Type 0 where
  pub below : g.actor < actors
  pub here : keeper g.actor ≡ by
  pub own : g.own ≡ entries_of g.actor history
  pub held : HeldFits history spot by g.held
  pub seen : SeenFits actors history g.seen

-- what a seat knows is so: of its actor, of the actors that it may deal, of those that it gathered, and of messages
pub record SeatFits (actors : ℕ) (history : List HistoryEntry) (keeper : ℕ → ℕ) (spot : ℕ → Spot) (by : ℕ) (v : SeatView) : Type 0 where
  pub below : v.actor < actors
  pub here : keeper v.actor ≡ by
  pub own : v.own ≡ entries_of v.actor history
  pub known : v.known ≤ length history
  pub undealt : (a : ℕ) → v.next ≤ a → a < v.actor → (keeper a ≡ by) × (entries_of a history ≡ [])
  pub gathered : (k : ℕ) (g : GatheredSeat) → get_elem? v.gathered k ≡ some g → GatheredFits actors history keeper spot by g
  pub others : (k : ℕ) (g : GatheredSeat) → get_elem? v.gathered k ≡ some g → g.actor ≢ v.actor
  pub apart : (j k : ℕ) (g h : GatheredSeat) → get_elem? v.gathered j ≡ some g → get_elem? v.gathered k ≡ some h
      → g.actor ≡ h.actor → j ≡ k
  pub held : HeldFits history spot by v.held
  pub seen : SeenFits actors history v.seen

abbrev pub Fits : ℕ → List HistoryEntry → (ℕ → ℕ) → (ℕ → Spot) → ℕ → View → Type 0
Fits actors history keeper spot by Spent = Unit {0}
Fits actors history keeper spot by (Sits v) = SeatFits actors history keeper spot by v
Fits actors history keeper spot by (Carries n) = Has history spot by n.message × SeenFits actors history (Some n.count)

-- keeper says which view has the right to an actor, and spot where the message of each stamp is
pub record IsKept (actors : ℕ) (words : List ℕ) (views : List View) : Type 0 where
  pub history : List HistoryEntry
  pub keeper : ℕ → ℕ
  pub spot : ℕ → Spot
  pub runs : Runs actors words history spot
  pub each : (by : ℕ) (v : View) → get_elem? views by ≡ some v → Fits actors history keeper spot by v
