use Rattle.std.proofs.Common.{subst}
use Rattle.txn_data.specs.declared.actor.Actor.TheVariants.{Session, Applier}
use Rattle.txn_data.specs.declared.mover.Mover.{Mover}
use Rattle.txn_types.specs.Script.{actor_of}
use Rattle.world_movers.specs.Asked.{IsAnswer}
use Rattle.world_movers.proofs.Entries.{move_served}
use Rattle.world_movers.proofs.Passing.{appliers_beside}
use Rattle.world_movers.proofs.Seats.{sessions_beside}
use Rattle.world_movers.proofs.movers.Movers.answered.Goals as goal

pub returns-in-Session : goal.returns-in-Session
returns-in-Session c = λ config given h e stands is.
    let i = c.in-Session.number in
    let answers = subst (λ (w : Mover). IsAnswer config h (actor_of w) c.args.reply e) c.in-Session.is is in
    record {
      sessions = c.answered.ensures config given h e stands.sessions answers;
      appliers = appliers_beside config h i e c.args.self.now.appliers stands.appliers (move_served config h (Session i) c.args.reply e answers);
    }

pub returns-in-Applier : goal.returns-in-Applier
returns-in-Applier c = λ config given h e stands is.
    let k = c.in-Applier.tablet in
    let answers = subst (λ (w : Mover). IsAnswer config h (actor_of w) c.args.reply e) c.in-Applier.is is in
    record {
      sessions = sessions_beside config given h k e c.args.self.now.sessions stands.sessions (move_served config h (Applier k) c.args.reply e answers);
      appliers = c.answered-in-Applier.ensures config h e stands.appliers answers;
    }
