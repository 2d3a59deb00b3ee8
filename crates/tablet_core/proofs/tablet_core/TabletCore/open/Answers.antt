use Rattle.txn_data.specs.declared.actor.Actor.TheVariants.{Tablet}
use Rattle.tablet_core.proofs.Performing.{none_kept}
use Rattle.tablet_core.proofs.tablet_core.TabletCore.open.Goals as goal

pub returns-clause-stands : goal.returns-clause-stands
returns-clause-stands g c = record { log = c.open.ensures.stands (Tablet c.args.tablet); records = λ up. none_kept g.V.Versions.holds c.new.result c.new.ensures }
