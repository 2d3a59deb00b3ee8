use Rattle.tablet_records.proofs.Fitted.{dropped_fit}
use Rattle.tablet_records.proofs.fitting_intents.FittingIntents.drop_of.Goals as goal

pub invariant_of-self : goal.invariant_of-self
invariant_of-self g c = dropped_fit g.V.Versions.fits c.self.inside.intents c.drop_of.new.self c.args.txn c.self.invariant c.drop_of.ensures

pub returns : goal.returns
returns g c = rw (← c.self.view_is) c.drop_of.ensures
