use Rattle.tablet_records.proofs.tablet_records.TabletRecords.clean.Goals as goal

pub returns : goal.returns
returns g c ps vs kept = record { intents = c.drop_of.ensures ps kept.intents; versions = kept.versions }
