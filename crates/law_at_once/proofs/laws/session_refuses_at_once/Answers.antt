use Rattle.law_at_once.proofs.Runs.{refused_at_once}
use Rattle.law_at_once.proofs.laws.session_refuses_at_once.Goals as goal

pub returns : goal.returns
returns c = refused_at_once
