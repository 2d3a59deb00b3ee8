-- What an applier's seat stands for.
use Rattle.std.specs.Prelude.{◌≡◌, ℕ, Option}
use Rattle.txn_data.specs.declared.actor.Actor.{Actor}
use Rattle.txn_data.specs.declared.actor.Actor.TheVariants.{Applier}
use Rattle.txn_data.specs.declared.config.Config.{Config}
use Rattle.txn_types.specs.History.{History}
use Rattle.txn_types.specs.Run.{Flight, mover_at}
use Rattle.txn_types.specs.Script.{started}
use Rattle.law_parts.specs.Parts.{waits}
use Rattle.mover_seat.specs.Pass.{HasCome}
use Rattle.mover_seat.specs.Stage.{is_waiting, asked_of}
use Rattle.mover_seat.specs.declared.applier_seat.ApplierSeat.{ApplierSeat}

-- a seat stands for the applier of tablet `k` after these entries of its own, with this message on its way
pub record StandsFor (config : Config) (k : ℕ) (g : History) (f : Flight) (s : ApplierSeat) : Type 0 where
  pub tablet : s.tablet ≡ k
  pub passes : s.passes ≡ config.passes
  pub begun : s.begun ≡ started (Applier k) g
  pub come : HasCome config k s.begun (mover_at config (Applier k) g) f s.pass s.stage
  pub waiting : waits g ≡ is_waiting f

-- the actor that it asked, which did not answer so far
abbrev pub awaits_of : ApplierSeat → Option Actor
awaits_of s = asked_of s.stage
