use Rattle.std.proofs.Common.{◌∙◌}
use Rattle.world_machines.specs.Stores.{spare_of, stores_of}
use Rattle.sim_schedule.proofs.Advancing.{stands_first}
use Rattle.sim_schedule.proofs.simulation.Simulation.open.Goals as goal

pub returns-clause-stands : goal.returns-clause-stands
returns-clause-stands g c =
    stands_first c.args.config.now c.args.plan.now (stores_of c.args.config.now g.L.LogStore.held g.L.LogStore.faults c.args.logs.now.items) (spare_of c.args.config.now c.args.logs.now.items) c.in_ok-world.world c.into_items-clocks.result.items
    c.requires.runnable c.in_ok-world.ensures.stands c.in_ok-world.ensures.first (c.into_items-clocks.ensures ∙ c.in_ok-try_copy.ensures)
