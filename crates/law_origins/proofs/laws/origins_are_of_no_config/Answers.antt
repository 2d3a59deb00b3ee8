use Rattle.law_origins.proofs.Origins.{one_origin}
use Rattle.law_origins.proofs.laws.origins_are_of_no_config.Goals as goal

pub returns : goal.returns
returns c = one_origin
