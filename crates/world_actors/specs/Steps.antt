-- What a step of a mover adds, and what it tells.
use Rattle.std.specs.Prelude.{◌≡◌, ℕ, Bool, true, false, List, ◌∷◌, Result, Ok, Err}
use Rattle.txn_data.specs.declared.actor.Actor.{Actor}
use Rattle.txn_data.specs.declared.config.Config.{Config}
use Rattle.txn_data.specs.declared.entry.Entry.{Entry}
use Rattle.txn_types.specs.History.{History}
use Rattle.txn_types.specs.Run.{mover_at}
use Rattle.txn_types.specs.Script.{clock_by}
use Rattle.mover_chain.specs.NextEvent.{Given, next_event, is_left, IsMove}
use Rattle.mover_seat.specs.Step.{moved_of}
use Rattle.mover_seat.specs.declared.moved.Moved.{Moved}
use Rattle.world_actors.specs.declared.step_refusal.StepRefusal.{StepRefusal}
use Rattle.world_actors.specs.declared.step_refusal.StepRefusal.TheVariants as refusal

-- whether mover `a` has an event left after this history, its last pass counted
abbrev pub has_next : Given → Config → Actor → History → Bool
has_next given config a h = is_left (next_event given config a h)

-- one move of mover `a`: one entry more, its next one, with the reading of its actor's node; a clock is told exactly where
-- the entry tells that a line set one
pub record MovesOn (given : Given) (config : Config) (readings : List ℕ) (a : Actor) (h g : History) (moved : Moved) : Type 0 where
  pub entry : Entry
  pub adds : g ≡ entry ∷ h
  pub is_move : IsMove given config readings a h entry
  pub clock : moved ≡ moved_of (clock_by (mover_at config entry.actor h).line entry.event)

-- what a step came to: a move; or it was refused and changed nothing: as not enabled if the mover has no event left, and for
-- want of memory only if it has one
abbrev pub Steps : Given → Config → List ℕ → Actor → History → History → Result Moved StepRefusal → Type 0
Steps given config readings a h g (Ok moved) = MovesOn given config readings a h g moved
Steps given config readings a h g (Err refusal.NotEnabled) = (g ≡ h) × (has_next given config a h ≡ false)
Steps given config readings a h g (Err refusal.Memory) = (g ≡ h) × (has_next given config a h ≡ true)
