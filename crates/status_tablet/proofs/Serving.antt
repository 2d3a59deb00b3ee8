-- How what a call promises is what `serve` promises of its request.
use Rattle.std.proofs.Common.{ℕ, Option, None}
use Rattle.txn_data.specs.declared.actor.Actor.{Actor}
use Rattle.txn_data.specs.declared.actor.Actor.TheVariants.{Status}
use Rattle.txn_data.specs.declared.request.Request.{Request}
use Rattle.txn_data.specs.declared.served.Served.{Served}
use Rattle.txn_types.specs.Machine.{Advances}
use Rattle.status_tablet.specs.Stands.{StatusState, Stands}
use Rattle.status_tablet.specs.Decisions.{ServesBy}

-- a request that takes no reading is served alike whether one is given or not
pub with_reading : (old new : StatusState) (from : Actor) (reading : Option ℕ) (asked : Request) (s : Served) → ServesBy old new from None asked s
    → Advances (Stands old) (Stands new) old.log.clock.lease (Status old.status) from reading asked s.reply s → ServesBy old new from reading asked s
with_reading old new from reading asked s by advances =
    record { advances = advances; fault = by.fault; memory = by.memory; restart = by.restart; loads = by.loads; faults = by.faults }
