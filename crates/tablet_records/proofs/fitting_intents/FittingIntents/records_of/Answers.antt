use Rattle.tablet_records.proofs.Fitted.{own_fit}
use Rattle.tablet_records.proofs.fitting_intents.FittingIntents.records_of.Goals as goal

pub returns-clause-fit : goal.returns-clause-fit
returns-clause-fit g c = own_fit g.V.Versions.fits c.self.inside.intents c.args.txn c.records_of.result c.self.invariant c.records_of.ensures
