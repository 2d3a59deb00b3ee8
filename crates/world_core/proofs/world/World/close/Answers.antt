use Rattle.std.proofs.Common.{ap, sym, subst}
use Rattle.txn_types.specs.History.{history_of}
use Rattle.world_actors.specs.Standing.{AreStanding}
use Rattle.world_core.specs.World.{recorded}
use Rattle.world_core.proofs.Keeping.{standing_keeps}
use Rattle.world_core.proofs.world.World.close.Goals as goal

pub returns : goal.returns
returns g c = λ config given start spare stands.
    let inside = subst (λ w. AreStanding config given start spare (recorded c.args.self) w.actors) (sym c.self.view_is) stands in
    record {
      history = ap (λ w. history_of w.trace) c.self.view_is;
      keeps = standing_keeps config given start spare (recorded c.args.self) c.args.self.actors stands;
      logged = c.into_stores.ensures.logged config given start spare (recorded c.args.self) inside;
      many = c.into_stores.ensures.many config given start spare (recorded c.args.self) inside;
      rest = c.into_stores.ensures.spare config given start spare (recorded c.args.self) inside;
    }
