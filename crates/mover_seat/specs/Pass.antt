-- What holds of the pass of an applier.
use Rattle.std.specs.Prelude.{◌≡◌, ℕ, ◌+◌, ◌<◌, Bool, true, false, Option, Some, None, length}
use Rattle.txn_data.specs.declared.actor.Actor.TheVariants.{Applier}
use Rattle.txn_data.specs.declared.command.Command.{Command}
use Rattle.txn_data.specs.declared.command.Command.TheVariants as command
use Rattle.txn_data.specs.declared.config.Config.{Config}
use Rattle.txn_data.specs.declared.told.Told.{Told}
use Rattle.txn_data.specs.declared.told.Told.TheVariants as told
use Rattle.txn_data.specs.declared.told_refusal.ToldRefusal.TheVariants as told_refusal
use Rattle.txn_types.specs.Program.{Program, Ask, Tell, turn}
use Rattle.txn_types.specs.Run.{Mover, Flight, mover_after, flight_after}
use Rattle.txn_types.specs.Script.{line_by}
use Rattle.intent_applier.specs.Rest.{rest}
use Rattle.intent_applier.specs.declared.pass.Pass.{Pass}
use Rattle.mover_chain.specs.NextEvent.{pass_starts, is_left}
use Rattle.mover_seat.specs.Made.{Makes}
use Rattle.mover_seat.specs.NextEvent.{applier_from}
use Rattle.mover_seat.specs.Stage.{StandsAt}
use Rattle.mover_seat.specs.declared.made.Made.{Made}
use Rattle.mover_seat.specs.declared.stage.Stage.{Stage}
use Rattle.mover_seat.specs.declared.stage.Stage.TheVariants as stage

-- it holds the pass under way just as long as that asks
abbrev pub does_hold : Option Pass → Stage → Bool
does_hold None stage.Between = true
does_hold None (stage.Tells t) = true
does_hold (Some p) (stage.Asks to asked) = true
does_hold (Some p) (stage.Awaits to) = true
does_hold (Some p) (stage.Hears from r) = true
does_hold pass at = false

-- where this is left of the pass under way, this is what comes next, and the pass is held as long as it asks
abbrev pub GoesOn : Program Told → Option Pass → Stage → Type 0
GoesOn p pass (stage.Asks to asked) = (turn p ≡ Ask to asked) × ((q : Pass) × (pass ≡ Some q) × (rest q ≡ p))
GoesOn p pass (stage.Tells t) = (turn p ≡ Tell t) × (pass ≡ None)
GoesOn p pass at = ⊥

-- the pass ends with out of memory
pub record IsLost (pass : Option Pass) (at : Stage) : Type 0 where
  pub told : at ≡ stage.Tells (told.Refused told_refusal.Memory)
  pub over : pass ≡ None

-- it may begin a pass: one beside the sessions, or the last
abbrev pub begins : ℕ → ℕ → ℕ → Bool → Bool
begins k passes begun done = is_left (pass_starts k passes begun done)

-- the parts of a seat stand for the applier of tablet `k`, which has come so far, with this message on its way
pub record HasCome (config : Config) (k begun : ℕ) (m : Mover) (f : Flight) (pass : Option Pass) (at : Stage) : Type 0 where
  pub there : k < config.tablets
  pub commands : m.commands ≡ begun
  pub stage : StandsAt m f at
  pub rest : (p : Pass) → pass ≡ Some p → m.rest ≡ rest p
  pub may_lose : m.may_lose ≡ true
  pub line : (line : Command) → m.line ≡ Some line → line ≡ command.Apply k

-- the entry that is made is the applier's next one, and with it the parts stand for it
abbrev pub Comes : Config → ℕ → Bool → ℕ → Mover → Flight → Made → ℕ → Option Pass → Type 0
Comes config k done begun m f made begun_then pass =
    ((reading : ℕ) → Makes config (Applier k) (applier_from done config.passes k begun m f) m f reading made)
    × HasCome config k begun_then (mover_after config (Applier k) m made.reading made.event) (flight_after (Applier k) f (Applier k) made.event) pass made.stage
    × (begun_then ≡ begun + length (line_by made.event))
