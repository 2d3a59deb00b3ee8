use Rattle.std.proofs.Common.{◌++◌, sym, ap, ◌∙◌}
use Rattle.std.specs.Prelude.{[], filter}
use Rattle.txn_types.specs.Tablet.{with_versions, met_under}
use Rattle.tablet_records.specs.Committed.{committed_writes, on_related}
use Rattle.tablet_records.proofs.Collecting.{told-met, told-rows}
use Rattle.tablet_records.proofs.tablet_records.TabletRecords.collect.Goals as goal

pub returns-in-Some-clause-reply : goal.returns-in-Some-clause-reply
returns-in-Some-clause-reply g c = λ ps us keeps.
    let own = c.args.own in
    let paths = c.args.paths.now in
    let fates = c.args.fates.now in
    let list = c.in_ok-list.list.items in
    told-met c.args.kind paths c.args.t c.args.window us list (committed_writes own fates ps) c.in-Some.met
    (c.in_ok-list.ensures.writes ps keeps.intents ∙ ap (λ f. filter (on_related paths) (committed_writes own f ps)) c.items.ensures)
    (sym c.in-Some.is ∙ c.in_ok-met.ensures us keeps.versions ∙ ap (λ l. met_under c.args.window c.args.t paths (us ++ l)) c.deref.ensures.value)

pub returns-in_ok-rows-in-None-clause-reply : goal.returns-in_ok-rows-in-None-clause-reply
returns-in_ok-rows-in-None-clause-reply g c = λ ps us keeps.
    let own = c.args.own in
    let paths = c.args.paths.now in
    let fates = c.args.fates.now in
    let list = c.in_ok-list.list.items in
    told-rows c.rows_of_added.ensures c.args.kind paths c.args.t c.args.window us list (committed_writes own fates ps) c.in_ok-rows-in-None.field-0
    (c.in_ok-list.ensures.writes ps keeps.intents ∙ ap (λ f. filter (on_related paths) (committed_writes own f ps)) c.items.ensures)
    (sym c.in-None.is ∙ c.in_ok-met.ensures us keeps.versions ∙ ap (λ l. met_under c.args.window c.args.t paths (us ++ l)) c.deref.ensures.value)
    (c.in_ok-rows-in-None.ensures us (with_versions [] list) (c.in_ok-all-in-None.ensures us keeps.versions))
