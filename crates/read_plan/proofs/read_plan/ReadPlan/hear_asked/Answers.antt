use Rattle.read_plan.proofs.Rounds.{fates_end}
use Rattle.read_plan.proofs.read_plan.ReadPlan.hear_asked.Goals as goal

pub returns-in-None-clause-ok : goal.returns-in-None-clause-ok
returns-in-None-clause-ok c = rw (c.in-None.ensures.none, fates_end) c.hear_rows.ensures.ok

pub returns-in-None-clause-room : goal.returns-in-None-clause-room
returns-in-None-clause-room c = rw (c.in-None.ensures.none, fates_end) (c.hear_rows.ensures.room c.args.limit)
