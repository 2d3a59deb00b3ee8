use Rattle.law_local_limits.proofs.Runs.{limits_fixed}
use Rattle.law_local_limits.proofs.laws.given_limits_were_fixed.Goals as goal

pub returns : goal.returns
returns c = limits_fixed
