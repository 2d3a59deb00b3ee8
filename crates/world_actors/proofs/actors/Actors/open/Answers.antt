use Rattle.world_actors.proofs.Following.{follows_none}
use Rattle.world_actors.proofs.Running.{runs_none}
use Rattle.mover_chain.specs.NextEvent.{given_by}
use Rattle.world_actors.proofs.actors.Actors.open.Goals as goal

pub returns-clause-stands : goal.returns-clause-stands
returns-clause-stands g c = record {
  cluster = c.in_ok-copy.ensures;
  lines = record { rising = c.requires.plan.rising; sessions = c.requires.plan.sessions; one_tablet = c.requires.plan.one_tablet };
  run = runs_none c.args.config.now c.requires.cluster;
  follows = follows_none (given_by c.args.plan.now);
  movers = c.in_ok-movers.ensures;
  machines = c.in_ok-machines.ensures.stands;
}
