use Rattle.law_served.proofs.Runs.{told_ran}
use Rattle.law_served.proofs.laws.told_commands_ran.Goals as goal

pub returns : goal.returns
returns c = told_ran
