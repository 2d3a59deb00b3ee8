use Rattle.std.proofs.Common.{rules}
use Rattle.txn_data.specs.Time.{takes_time}
use Rattle.txn_types.specs.Machine.{reading_used}
use Rattle.status_tablet.proofs.status_tablet.StatusTablet.perform.Goals as goal

pub returns-in-Some-clause-performs : goal.returns-in-Some-clause-performs
returns-in-Some-clause-performs g c from reading asked fit says =
    c.carry_out.ensures.carries_out from reading asked (c.down-in-Some.ensures.says c.args.self.now (search rules) (reading_used (takes_time asked) reading) asked fit)

pub returns-in-None-clause-performs : goal.returns-in-None-clause-performs
returns-in-None-clause-performs g c from reading asked fit says = c.carry_out-in-None.ensures.carries_out from reading asked (says (search rules))
