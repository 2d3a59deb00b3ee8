use Rattle.law_clocks.proofs.Runs.{leases_cover}
use Rattle.law_clocks.proofs.laws.leases_cover.Goals as goal

pub returns : goal.returns
returns c = leases_cover
