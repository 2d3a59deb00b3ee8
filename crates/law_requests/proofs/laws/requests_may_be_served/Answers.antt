use Rattle.law_requests.proofs.Runs.{may_be_served}
use Rattle.law_requests.proofs.laws.requests_may_be_served.Goals as goal

pub returns : goal.returns
returns c = may_be_served
