use Rattle.std.proofs.Common.{ap, subst, sym}
use Rattle.world_machines.specs.Machines.{StandsFor}
use Rattle.world_actors.proofs.actors.Actors.into_stores.Goals as goal

pub returns-clause-many : goal.returns-clause-many
returns-clause-many g c = λ config given start spare h stands. c.into_stores.ensures.many config start spare h (subst (λ m. StandsFor config start spare h m) (sym (ap (λ a. a.machines) c.self.view_is)) stands.machines)

pub returns-clause-logged : goal.returns-clause-logged
returns-clause-logged g c = λ config given start spare h stands. c.into_stores.ensures.logged config start spare h (subst (λ m. StandsFor config start spare h m) (sym (ap (λ a. a.machines) c.self.view_is)) stands.machines)

pub returns-clause-spare : goal.returns-clause-spare
returns-clause-spare g c = λ config given start spare h stands. c.into_stores.ensures.spare config start spare h (subst (λ m. StandsFor config start spare h m) (sym (ap (λ a. a.machines) c.self.view_is)) stands.machines)
