use Rattle.tablet_records.proofs.Fitted.{added_fit}
use Rattle.tablet_records.proofs.fitting_intents.FittingIntents.add.Goals as goal

pub invariant_of-self : goal.invariant_of-self
invariant_of-self g c =
    added_fit g.V.Versions.fits c.self.inside.intents c.add.new.self
    (record { meta = c.args.meta.now; number = c.args.number; path = c.args.path.now; op = c.args.op.now; wrote = c.args.wrote })
    c.add.result c.self.invariant c.requires c.add.ensures.ok c.add.ensures.memory
