use Rattle.law_requests.proofs.Runs.{serving}
use Rattle.law_requests.proofs.laws.serving_is_allowed.Goals as goal

pub returns : goal.returns
returns c = serving
