use Rattle.load_maker.proofs.Blocks.{cluster_spelled, made_runs, made_said}
use Rattle.load_maker.proofs.making.make.Goals as goal

pub returns-clause-spelled : goal.returns-clause-spelled
returns-clause-spelled c = rw c.in_ok-config.ensures cluster_spelled

pub returns-clause-said : goal.returns-clause-said
returns-clause-said c = λ few. rw (c.in_ok-config.ensures, c.in_ok-plan.ensures) (made_said c.args.blocks c.args.number few)

pub returns-clause-runs : goal.returns-clause-runs
returns-clause-runs c = λ few. rw (c.in_ok-config.ensures, c.in_ok-plan.ensures) (made_runs c.args.blocks c.args.number few)
