use Rattle.std.proofs.lemmas.Result.{IfOk-at_ok}
use Rattle.tablet_core.proofs.tablet_core.TabletCore.perform.Goals as goal

pub returns-in-Ok-clause-performs : goal.returns-in-Ok-clause-performs
returns-in-Ok-clause-performs g c from reading asked up says = c.carry_out.ensures.carries_out from reading asked (IfOk-at_ok _ c.in-Ok.is says)

pub returns-in-Err-Down-clause-performs : goal.returns-in-Err-Down-clause-performs
returns-in-Err-Down-clause-performs g c from reading asked up says = c.carry_out-in-Err-Down.ensures.carries_out from reading asked (c.refuse_down-refused.ensures.says _ asked up)
