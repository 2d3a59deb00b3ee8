-- A stage, a seat and a note, as contracts see them.
use Rattle.std.specs.Prelude.{◌≡◌, ℕ, zero, suc, List, [], ◌∷◌, ◌++◌}
use Rattle.atomic_table.specs.Seated.{TableId}
use Rattle.atomic_table.specs.Table.{Me}
use Rattle.txn_data.specs.declared.config.Config.{Config}
use Rattle.txn_data.specs.declared.schedule.Schedule.TheVariants.{Serial}
use Rattle.actor_table.specs.declared.seat_view.SeatView.{SeatView}
use Rattle.actor_table.specs.declared.note_view.NoteView.{NoteView}
use Rattle.actor_table.specs.declared.view.View.{View}
use Rattle.actor_table.specs.declared.view.View.TheVariants.{Spent, Sits, Carries}
use Rattle.actor_table.specs.Steps.{newcomer, note_from}

-- a stage: which table it is, and the number of its actors
pub record StageValue : Type 0 where
  pub table : TableId
  pub actors : ℕ

-- a seat: the table of its stage, and what it knows
pub record SeatValue : Type 0 where
  pub table : TableId
  pub at : SeatView

-- a note: the table of its stage, and what it carries
pub record NoteValue : Type 0 where
  pub table : TableId
  pub at : NoteView

abbrev pub seat_of : View → SeatView
seat_of Spent = newcomer 0 0
seat_of (Sits v) = v
seat_of (Carries n) = newcomer 0 0

abbrev pub note_of : View → NoteView
note_of Spent = note_from (newcomer 0 0)
note_of (Sits v) = note_from (newcomer 0 0)
note_of (Carries n) = n

-- a seat of one actor, which gathered no other and deals no other
abbrev pub IsSeat : Me (Unit {0}) View → Type 0
IsSeat me = (me ≡ (Sits (seat_of me.0), [])) × ((seat_of me.0).gathered ≡ []) × ((seat_of me.0).next ≡ (seat_of me.0).actor)

-- the seat of an actor that made nothing
abbrev pub fresh : TableId → ℕ → SeatValue
fresh table k = record { table = table; at = newcomer k k }

-- the seats of the actors below a number, in order
abbrev pub fresh_seats : TableId → ℕ → List SeatValue
fresh_seats table zero = []
fresh_seats table (suc k) = fresh_seats table k ++ fresh table k ∷ []

-- what a name stands for if no call picks it

abbrev pub no_table : TableId
no_table = record { words = 0; slots = 0; views_name = 0; atom = 0; block = 0; offset = 0; slot_names = [] }

abbrev pub no_config : Config
no_config = record { nodes = 0; tablets = 0; status = 0; passes = 0; skew_us = 0; lease_us = 0; number = 0; start_us = []; schedule = Serial }
