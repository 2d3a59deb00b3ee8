use Rattle.std.proofs.Common.{ap, ◌∙◌}
use Rattle.std.specs.Prelude.{List}
use Rattle.txn_data.specs.declared.found.Found.{Found}
use Rattle.conflict_matrix.specs.Decide.{least_open}
use Rattle.tablet_records.specs.Keeps.{other_in}
use Rattle.tablet_records.proofs.Changing.{other_alone}
use Rattle.tablet_records.proofs.tablet_records.TabletRecords.decide_single.Goals as goal

pub returns : goal.returns
returns g c ps vs kept =
    c.other_in.ensures ∙ ap other_in c.decide.ensures ∙ other_alone (least_open c.in_ok-others.others c.args.fates.now)
    ∙ ap (λ (fs : List Found). least_open fs c.args.fates.now) (c.in_ok-others.ensures ps kept.intents)
    ∙ c.least_open_is_conflict.ensures ps ps c.args.txn c.args.path.now c.args.fates.now
