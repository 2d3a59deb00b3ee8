use Rattle.status_tablet.proofs.Downed.{down_says}
use Rattle.status_tablet.proofs.status_decision.StatusDecision.down.Goals as goal

pub returns-clause-says : goal.returns-clause-says
returns-clause-says c s down reading asked fit = rw (c.plain.ensures, c.refuse.ensures) (down_says c.args.since s down reading asked fit)
