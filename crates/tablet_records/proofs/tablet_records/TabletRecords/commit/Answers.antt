use Rattle.std.proofs.Common.{List, ap, subst, ◌∙◌}
use Rattle.std.specs.Prelude.{map}
use Rattle.txn_data.specs.declared.version.Version.{Version}
use Rattle.txn_data.specs.declared.provisional.Provisional.{Provisional}
use Rattle.txn_types.specs.Tablet.{with_versions}
use Rattle.intent_records.specs.Holds.{own}
use Rattle.tablet_records.specs.Keeps.{version_of}
use Rattle.tablet_records.proofs.Changing.{as_versions, versions_fit}
use Rattle.tablet_records.proofs.tablet_records.TabletRecords.commit.Goals as goal

pub add_all-requires : goal.add_all-requires
add_all-requires g c = versions_fit g.V.Versions.fits c.args.at c.in_ok-writes.writes.items c.in_ok-list.list.items c.in_ok-writes.ensures.fit c.in_ok-list.ensures

pub returns-clause-ok : goal.returns-clause-ok
returns-clause-ok g c ps vs kept = record {
  intents = c.drop_of.ensures ps kept.intents;
  versions = subst (λ (l : List Version). g.V.Versions.holds c.add_all.new.self (with_versions vs l))
      (c.in_ok-list.ensures ∙ ap (λ (ws : List Provisional). map (version_of c.args.at) ws) (c.in_ok-writes.ensures.records ps kept.intents) ∙ as_versions c.args.at (own c.args.txn ps))
      (c.in_ok-add_all.ensures.ok vs kept.versions);
}
