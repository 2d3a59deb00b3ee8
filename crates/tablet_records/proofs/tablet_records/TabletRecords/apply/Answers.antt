use Rattle.std.proofs.Common.{subst, sym}
use Rattle.log_record.specs.declared.log_record.LogRecord.{LogRecord}
use Rattle.tablet_log.specs.Replay.{intents_after, versions_after}
use Rattle.tablet_records.specs.Keeps.{Keeps}
use Rattle.tablet_records.proofs.tablet_records.TabletRecords.apply.Goals as goal

pub returns-in-Clean-clause-ok : goal.returns-in-Clean-clause-ok
returns-in-Clean-clause-ok g c ps vs kept =
    subst (λ (r : LogRecord). Keeps g.V.Versions.holds c.clean.new.self (intents_after ps r) (versions_after vs ps r)) (sym c.in-Clean.is) (c.clean.ensures ps vs kept)
