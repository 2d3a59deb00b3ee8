use Rattle.std.proofs.Common.{refl}
use Rattle.read_plan.proofs.Rounds.{round_asks}
use Rattle.read_plan.specs.Rest.{asked, progress}
use Rattle.read_plan.proofs.read_plan.ReadPlan.list_request.Goals as goal

pub returns-in_err-paths_on-clause-room : goal.returns-in_err-paths_on-clause-room
returns-in_err-paths_on-clause-room c = λ more. rw (round_asks _ (asked c.args.self.now) (progress c.args.self.now) c.args.tablet more) refl

pub returns-clause-turn : goal.returns-clause-turn
returns-clause-turn c = λ more.
    rw (round_asks _ (asked c.args.self.now) (progress c.args.self.now) c.args.tablet more) (cc (c.in_ok-paths_on.ensures, c.limit_of.ensures, c.items.ensures, c.items-2.ensures))

pub returns-clause-room : goal.returns-clause-room
returns-clause-room c = λ more. rw (round_asks _ (asked c.args.self.now) (progress c.args.self.now) c.args.tablet more) refl
