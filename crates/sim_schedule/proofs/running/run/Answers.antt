use Rattle.sim_schedule.proofs.Ends.{all_made, last_has}
use Rattle.sim_schedule.proofs.running.run.Goals as goal

pub passes-requires : goal.passes-requires
passes-requires g c = last_has c.args.config.now c.args.plan.now c.args.simulation.now.world c.chosen.new.simulation.world c.args.simulation.now.clocks.items c.chosen.new.simulation.clocks.items c.in_ok-chosen.ensures

pub returns : goal.returns
returns g c =
    all_made c.args.config.now c.args.plan.now c.passes.result c.args.simulation.now.world c.chosen.new.simulation.world c.passes.new.simulation.world c.args.simulation.now.clocks.items c.chosen.new.simulation.clocks.items c.passes.new.simulation.clocks.items
    c.in_ok-chosen.ensures (c.passes.ensures c.args.plan.now c.in_ok-chosen.ensures.standing)
