use Rattle.leased_log.proofs.Same.{same_stands}
use Rattle.leased_log.proofs.laws.the_same_log_stands.Goals as goal

pub returns : goal.returns
returns c = same_stands
