use Rattle.std.proofs.Common.{refl}
use Rattle.session_core.specs.SessionState.{keeps}
use Rattle.session_core.proofs.starting.work_of.Goals as goal

pub returns-in-Begin-clause-limits : goal.returns-in-Begin-clause-limits
returns-in-Begin-clause-limits c = c.begin_work.ensures.limits (keeps c.args.state.now)

pub returns-in_ok-try_copy-in-Put-clause-limits : goal.returns-in_ok-try_copy-in-Put-clause-limits
returns-in_ok-try_copy-in-Put-clause-limits c = c.write_work.ensures.limits (keeps c.args.state.now)

pub returns-in-Del-clause-limits : goal.returns-in-Del-clause-limits
returns-in-Del-clause-limits c = c.write_work-in-Del.ensures.limits (keeps c.args.state.now)

pub returns-in-Commit-clause-limits : goal.returns-in-Commit-clause-limits
returns-in-Commit-clause-limits c = c.commit_work.ensures.limits (keeps c.args.state.now)

pub returns-in-Read-clause-limits : goal.returns-in-Read-clause-limits
returns-in-Read-clause-limits c = c.read_work.ensures.limits (keeps c.args.state.now) refl

pub returns-in-Scan-clause-limits : goal.returns-in-Scan-clause-limits
returns-in-Scan-clause-limits c = c.read_work-in-Scan.ensures.limits (keeps c.args.state.now) refl

pub returns-in_ok-try_copy-in-SinglePut-clause-limits : goal.returns-in_ok-try_copy-in-SinglePut-clause-limits
returns-in_ok-try_copy-in-SinglePut-clause-limits c = c.single_work.ensures.limits (keeps c.args.state.now)

pub returns-in-SingleDel-clause-limits : goal.returns-in-SingleDel-clause-limits
returns-in-SingleDel-clause-limits c = c.single_work-in-SingleDel.ensures.limits (keeps c.args.state.now)

pub returns-in-Abort-clause-limits : goal.returns-in-Abort-clause-limits
returns-in-Abort-clause-limits c = c.abort_work.ensures.limits (keeps c.args.state.now)
