-- What a read asks of tablets, whatever it hears.
use Rattle.std.specs.Prelude.{◌≡◌, ℕ, Bool, true, false, List, [], ◌∷◌, ◌++◌, Option, Some, None}
use Rattle.txn_data.specs.declared.actor.Actor.TheVariants.{Tablet}
use Rattle.txn_data.specs.declared.read_end.ReadEnd.{ReadEnd}
use Rattle.txn_data.specs.declared.reply.Reply.{Reply}
use Rattle.txn_data.specs.declared.request.Request.TheVariants as request
use Rattle.txn_data.specs.declared.window.Window.{Window}
use Rattle.txn_types.specs.Program.{Program, Turn, Ask, turn, heard}

-- a visit begins where a tablet is asked to list, and goes on where it is asked to collect, with the window or without
pub data VisitStep : Type 0 where
  Lists : (tablet : ℕ) → VisitStep
  Collects : (windowed : Bool) (tablet : ℕ) → VisitStep

abbrev pub has_window : Option Window → Bool
has_window (Some window) = true
has_window None = false

-- what a turn asks of a tablet
abbrev pub visit_step : Turn ReadEnd → List VisitStep
visit_step (Ask (Tablet k) (request.ListRead own paths t g limit)) = Lists k ∷ []
visit_step (Ask (Tablet k) (request.Collect own kind paths t window fates)) = Collects (has_window window) k ∷ []
visit_step _ = []

-- all that is asked of tablets, in order, while these replies come
unfoldable pub visit_steps : Program ReadEnd → List Reply → List VisitStep
visit_steps p [] = visit_step (turn p)
visit_steps p (r ∷ rs) = visit_step (turn p) ++ visit_steps (heard p r) rs

-- a round: one visit of each of these tablets, one after another
unfoldable pub round_steps : Bool → List ℕ → List VisitStep
round_steps windowed [] = []
round_steps windowed (k ∷ ks) = Lists k ∷ Collects windowed k ∷ round_steps windowed ks

-- the second list goes on where the first ends
abbrev pub Begins : List VisitStep → List VisitStep → Type 0
Begins steps all = (more : List VisitStep) × (steps ++ more ≡ all)
