use Rattle.std.proofs.Common.{take}
use Rattle.tablet_log.specs.Replay.{tablet_of}
use Rattle.tablet_records.specs.Keeps.{Keeps}
use Rattle.tablet_records.proofs.tablet_records.TabletRecords.replayed.Given as goal

abbrev pub invariant-loop-logged : goal.invariant-loop-logged
invariant-loop-logged g l =
    Keeps g.V.Versions.holds l.all (tablet_of (take l.logged-index l.records)).intents (tablet_of (take l.logged-index l.records)).versions
