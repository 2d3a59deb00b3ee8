-- How much a read asks, whatever it hears.
use Rattle.std.specs.Prelude.{ℕ, ◌≤◌, Bool, true, false, List, ◌++◌, Option, length}
use Rattle.txn_data.specs.declared.place.Place.{Place}
use Rattle.txn_data.specs.declared.read_kind.ReadKind.{ReadKind}
use Rattle.txn_data.specs.declared.reply.Reply.{Reply}
use Rattle.txn_data.specs.declared.tablet_limit.TabletLimit.{TabletLimit}
use Rattle.txn_types.specs.ReadProgram.{read_program, tablets_of}
use Rattle.read_plan.specs.Visits.{Begins, visit_steps, round_steps}

-- At most two rounds: it visits its tablets by rising number, with the window; and then at most once more, without. It
-- asks a tablet once to list and at most once to collect in a visit, and may end anywhere.
abbrev pub ReadsTakeTwoRounds : Type 0
ReadsTakeTwoRounds = (own : Option ℕ) (kind : ReadKind) (places : List Place) (t g : ℕ) (strict : Bool) (limits : List TabletLimit) (replies : List Reply)
    → Begins (visit_steps (read_program own kind places t g strict limits) replies)
    (round_steps true (tablets_of places) ++ round_steps false (tablets_of places))

-- At most as many visits a round as places.
abbrev pub RoundsVisitFewTablets : Type 0
RoundsVisitFewTablets = (places : List Place) → length (tablets_of places) ≤ length places
