use Rattle.read_plan.proofs.Visits.{two_rounds, few_tablets}
use Rattle.read_plan.proofs.laws.reads_take_two_rounds.Goals as goal

pub returns-clause-rounds : goal.returns-clause-rounds
returns-clause-rounds c = two_rounds

pub returns-clause-visits : goal.returns-clause-visits
returns-clause-visits c = few_tablets
