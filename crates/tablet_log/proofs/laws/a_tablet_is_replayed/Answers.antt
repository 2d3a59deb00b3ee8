use Rattle.tablet_log.proofs.Replayed.{tablet_is}
use Rattle.tablet_log.proofs.laws.a_tablet_is_replayed.Goals as goal

pub returns : goal.returns
returns c = tablet_is
