use Rattle.read_plan.proofs.Rounds.{round_listed}
use Rattle.read_plan.proofs.read_plan.ReadPlan.hear_list.Goals as goal

pub returns-in-Listed-clause-ok : goal.returns-in-Listed-clause-ok
returns-in-Listed-clause-ok c = rw (c.in-Listed.is, c.in-Some.ensures.some, round_listed) c.listed.ensures.ok
