use Rattle.std.proofs.Common.{sym, subst}
use Rattle.world_actors.specs.Standing.{AreStanding}
use Rattle.world_core.specs.World.{recorded}
use Rattle.world_core.proofs.world.World.left.Goals as goal

pub returns : goal.returns
returns g c = λ config given start spare stands.
    c.left.ensures config given start spare (recorded c.args.self.now) (subst (λ w. AreStanding config given start spare (recorded c.args.self.now) w.actors) (sym c.self.view_is) stands)
