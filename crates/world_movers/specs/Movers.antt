-- What all movers of a world stand for.
use Rattle.std.specs.Prelude.{◌≡◌, ℕ, Bool, true, Option}
use Rattle.txn_data.specs.declared.config.Config.{Config}
use Rattle.txn_data.specs.declared.mover.Mover.{Mover}
use Rattle.txn_data.specs.declared.mover.Mover.TheVariants as mover
use Rattle.txn_types.specs.History.{History}
use Rattle.mover_chain.specs.NextEvent.{Given}
use Rattle.world_movers.specs.Appliers as appliers
use Rattle.world_movers.specs.Appliers.{AppliersStand}
use Rattle.world_movers.specs.Sessions as sessions
use Rattle.world_movers.specs.Sessions.{SessionsStand}
use Rattle.world_movers.specs.declared.asking.Asking.{Asking}
use Rattle.world_movers.specs.declared.movers.Movers.{Movers}

-- what a mover awaits
abbrev pub awaits_of : Movers → Mover → Option Asking
awaits_of m (mover.Session i) = sessions.asking_of m.sessions i
awaits_of m (mover.Applier k) = appliers.asking_of m.appliers k

-- what was listed may come: a session takes it for a read that is under way, and an applier takes any reply
abbrev pub takes_lists : Movers → Mover → Bool
takes_lists m (mover.Session i) = sessions.is_reading_of m.sessions i
takes_lists m (mover.Applier k) = true

-- the movers stand for the sessions that were given these lines, and for the appliers of a cluster, after a history
pub record StandsFor (config : Config) (given : Given) (h : History) (m : Movers) : Type 0 where
  pub sessions : SessionsStand config given h m.sessions
  pub appliers : AppliersStand config h m.appliers
