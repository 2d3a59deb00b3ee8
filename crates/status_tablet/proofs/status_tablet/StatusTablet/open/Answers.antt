use Rattle.std.proofs.Common.{sym, ◌∙◌}
use Rattle.txn_data.specs.declared.actor.Actor.TheVariants.{Status}
use Rattle.status_tablet.proofs.Begun.{none_kept}
use Rattle.status_tablet.proofs.status_tablet.StatusTablet.open.Goals as goal

pub returns-clause-stands : goal.returns-clause-stands
returns-clause-stands g c = record { log = c.open.ensures.stands (Status c.args.status); records = λ up x. c.new.ensures x ∙ sym (none_kept x) }
