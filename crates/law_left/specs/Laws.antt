-- What a pass leaves, once no session is at work any more, in every run.
use Rattle.std.specs.Prelude.{ℕ, Option}
use Rattle.txn_data.specs.declared.actor.Actor.TheVariants.{Applier}
use Rattle.txn_data.specs.declared.commands.Commands.{Commands}
use Rattle.txn_data.specs.declared.config.Config.{Config}
use Rattle.txn_data.specs.declared.told.Told.TheVariants as told
use Rattle.txn_data.specs.declared.event.Event.TheVariants.{Tell}
use Rattle.txn_types.specs.History.{History}
use Rattle.txn_types.specs.Reads.{before_start}
use Rattle.txn_types.specs.Run.{Run}
use Rattle.txn_types.specs.Script.{Whole}
use Rattle.txn_types.specs.Settled.{Settled, AllSettled}
use Rattle.law_machines.specs.Own.{StandsOver}
use Rattle.txn_promises.specs.Left.{RestSince, LeftAsTold}

-- a pass was told that this many are left, and since its Start no session had a command under way: then its tablet is settled
-- with just that number, whatever other appliers do, and whatever this one does later
abbrev pub PassesSettle : Type 0
PassesSettle = (config : Config) (h before : History) (k : ℕ) (reading : Option ℕ) (number applied cleaned left : ℕ) → Run config h →
    StandsOver (record { actor = Applier k; reading = reading; event = Tell number (told.Passed applied cleaned left) }) before h →
    RestSince config (before_start (Applier k) before) h → Settled h k left

-- so it is of the last pass of an applier that has no pass under way
abbrev pub LastPassesSettle : Type 0
LastPassesSettle = (config : Config) (h : History) (k : ℕ) → Run config h → LeftAsTold config h k

-- and where all of a plan is done, of each tablet
abbrev pub PlansSettle : Type 0
PlansSettle = (config : Config) (plan : Commands) (h : History) → Run config h → Whole config plan h → AllSettled config h
