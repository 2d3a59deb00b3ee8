use Rattle.std.proofs.Common.{◌&&◌, not, List, sym, ap, ◌∙◌, subst}
use Rattle.std.specs.Prelude.{is_some, filter, filter_map}
use Rattle.std.specs.List.{AllByRecursion}
use Rattle.std.specs.BTreeMap.{get}
use Rattle.std.specs.Ordering.{nat_cmp}
use Rattle.std.proofs.lemmas.Result.{IfOk-weaker}
use Rattle.txn_data.specs.declared.version.Version.{Version}
use Rattle.txn_types.specs.Tablet.{is_own, commit_time}
use Rattle.intent_records.specs.Related.{related_writes}
use Rattle.intent_records.proofs.Told.{contains-number}
use Rattle.tablet_records.specs.Committed.{on_related, version_under}
use Rattle.tablet_records.proofs.Grouped.{committed-grouped}
use Rattle.tablet_records.proofs.Owned.{under-firsts, related-committed, versions-fit}
use Rattle.tablet_records.proofs.tablet_records.TabletRecords.committed.Goals as goal

pub returns-clause-writes : goal.returns-clause-writes
returns-clause-writes g c ps h =
    let own = c.args.own in
    let paths = c.args.paths.now in
    let fates = c.args.fates.now in
    let firsts = get nat_cmp c.in_ok-firsts.firsts in
    let keys = c.in_ok-txns.txns.keys in
    IfOk-weaker c.committed_versions.result _ _
    (λ list e. e
    ∙ ap (filter_map (version_under firsts)) (c.in_ok-writes.ensures.records ps h)
    ∙ under-firsts fates firsts c.in_ok-firsts.ensures (related_writes paths keys ps)
    ∙ related-committed paths fates ps keys
    ∙ ap (filter (on_related paths)) (committed-grouped own fates ps keys c.in_ok-txns.ensures.ordered
    (λ x. sym (contains-number x keys) ∙ c.in_ok-txns.ensures.committed x ∙ ap (λ o. not (is_own own x) && is_some (commit_time o)) (c.in_ok-firsts.ensures x))))
    c.committed_versions.ensures

pub returns-clause-fit : goal.returns-clause-fit
returns-clause-fit g c =
    let P : List Version → Type 0 = AllByRecursion (λ (v : Version). g.V.Versions.fits v.path) in
    IfOk-weaker c.committed_versions.result _ _
    (λ list e. subst P (sym e) (versions-fit g.V.Versions.fits (get nat_cmp c.in_ok-firsts.firsts) c.in_ok-writes.writes.items c.in_ok-writes.ensures.fit))
    c.committed_versions.ensures
