use Rattle.session_core.specs.SessionState.{keeps}
use Rattle.session_core.proofs.starting.timed_work.Goals as goal

pub returns-in-Begin-clause-limits : goal.returns-in-Begin-clause-limits
returns-in-Begin-clause-limits c = c.step_work.ensures.limits (keeps c.args.state.now)
