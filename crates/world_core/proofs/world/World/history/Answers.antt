use Rattle.world_core.specs.World.{recorded}
use Rattle.world_core.proofs.Keeping.{standing_keeps}
use Rattle.world_core.proofs.world.World.history.Goals as goal

pub returns-clause-keeps : goal.returns-clause-keeps
returns-clause-keeps g c = λ config given start spare stands. standing_keeps config given start spare (recorded c.args.self.now) c.args.self.now.actors stands
