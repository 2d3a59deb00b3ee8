use Rattle.tablet_records.specs.Keeps.{Keeps}
use Rattle.tablet_records.proofs.Changing.{on_err}
use Rattle.tablet_records.proofs.tablet_records.TabletRecords.add_write.Goals as goal

pub returns-in_err-add-clause-memory : goal.returns-in_err-add-clause-memory
returns-in_err-add-clause-memory g c ps vs kept =
    on_err (Keeps g.V.Versions.holds (record { alloc = c.args.self.now.alloc; intents = c.add.new.self; versions = c.args.self.now.versions }) ps vs)
    c.from_residual.result (record { intents = c.in_err-add.ensures.memory ps kept.intents; versions = kept.versions })

pub returns-clause-ok : goal.returns-clause-ok
returns-clause-ok g c ps vs kept = record { intents = c.in_ok-add.ensures.ok ps kept.intents; versions = kept.versions }
