-- What a refused command asked, in every run.
use Rattle.std.specs.Prelude.{◌≡◌, true}
use Rattle.txn_data.specs.declared.actor.Actor.{Actor}
use Rattle.txn_data.specs.declared.config.Config.{Config}
use Rattle.txn_data.specs.declared.told.Told.TheVariants as told
use Rattle.txn_data.specs.declared.told_refusal.ToldRefusal.{ToldRefusal}
use Rattle.txn_data.specs.declared.told_refusal.ToldRefusal.TheVariants as why
use Rattle.txn_types.specs.Lists.{Member}
use Rattle.txn_types.specs.History.{History}
use Rattle.txn_types.specs.Run.{Run}
use Rattle.txn_types.specs.Cause.{ToldAt, tells}
use Rattle.txn_promises.specs.Lines.{mover_then, is_restart}
use Rattle.txn_promises.specs.Leaves.{AbortsAsked, Closes, restarted_since}

-- an Abort was asked by a put or a del that the refusal closes, once and last, and by an abort or an end, and by no other
abbrev pub AbortsAreAsked : Type 0
AbortsAreAsked = (config : Config) (h : History) (t : ToldAt) (refusal : ToldRefusal) → Run config h → Member t (tells h) → t.told ≡ told.Refused refusal →
    AbortsAsked config t refusal × Closes config t refusal

-- what was restarted for the command was restarted by a restart that is told out of memory
abbrev pub RestartsAreTold : Type 0
RestartsAreTold = (config : Config) (h : History) (t : ToldAt) (refusal : ToldRefusal) (a : Actor) → Run config h → Member t (tells h) → t.told ≡ told.Refused refusal →
    Member a (restarted_since t.who t.before) → (is_restart (mover_then config t).line ≡ true) × (refusal ≡ why.Memory)
