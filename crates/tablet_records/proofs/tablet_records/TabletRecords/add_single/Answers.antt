use Rattle.std.proofs.Common.{List, subst}
use Rattle.txn_data.specs.declared.version.Version.{Version}
use Rattle.txn_types.specs.Tablet.{with_versions}
use Rattle.tablet_records.proofs.tablet_records.TabletRecords.add_single.Goals as goal

pub returns-clause-ok : goal.returns-clause-ok
unfolding with_versions
returns-clause-ok g c ps vs kept = record {
  intents = kept.intents;
  versions = subst (λ (l : List Version). g.V.Versions.holds c.add_all.new.self (with_versions vs l)) c.in_ok-list.ensures (c.in_ok-add_all.ensures.ok vs kept.versions);
}
