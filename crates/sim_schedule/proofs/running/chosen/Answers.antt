use Rattle.sim_schedule.proofs.Ends.{drawn_is_over, go_is_over, serial_is_over}
use Rattle.sim_schedule.proofs.running.chosen.Goals as goal

pub returns-in-Serial : goal.returns-in-Serial
returns-in-Serial g c = serial_is_over c.args.config.now c.args.plan.now c.serial.result c.args.simulation.now.world c.serial.new.simulation.world c.args.simulation.now.clocks.items c.serial.new.simulation.clocks.items c.in-Serial.is c.serial.ensures

pub returns-in-Go : goal.returns-in-Go
returns-in-Go g c = go_is_over c.args.config.now c.args.plan.now c.go.result c.args.simulation.now.world c.go.new.simulation.world c.args.simulation.now.clocks.items c.go.new.simulation.clocks.items c.in-Go.is c.go.ensures

pub returns-in-Drawn : goal.returns-in-Drawn
returns-in-Drawn g c = drawn_is_over c.args.config.now c.args.plan.now c.drawn.result c.args.simulation.now.world c.drawn.new.simulation.world c.args.simulation.now.clocks.items c.drawn.new.simulation.clocks.items c.in-Drawn.is c.drawn.ensures
