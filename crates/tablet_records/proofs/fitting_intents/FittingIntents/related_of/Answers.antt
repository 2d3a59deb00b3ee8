use Rattle.tablet_records.proofs.Fitted.{related_fit}
use Rattle.tablet_records.proofs.fitting_intents.FittingIntents.related_of.Goals as goal

pub returns-clause-fit : goal.returns-clause-fit
returns-clause-fit g c =
    related_fit g.V.Versions.fits c.self.inside.intents c.args.paths.now c.args.txns.now.keys c.related_of.result c.self.invariant c.related_of.ensures
