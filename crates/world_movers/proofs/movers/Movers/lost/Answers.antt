use Rattle.std.proofs.Common.{◌≡◌, Some, sym, subst}
use Rattle.txn_data.specs.declared.actor.Actor.TheVariants.{Session, Applier}
use Rattle.txn_data.specs.declared.mover.Mover.{Mover}
use Rattle.txn_types.specs.History.{own}
use Rattle.txn_types.specs.Run.{flight}
use Rattle.txn_types.specs.Script.{actor_of}
use Rattle.mover_chain.specs.NextEvent.{NextEvent, all_done}
use Rattle.mover_seat.specs.Stage.{awaited}
use Rattle.mover_seat.specs.Step.{HearsMemory}
use Rattle.world_movers.proofs.Entries.{move_by}
use Rattle.world_movers.proofs.Passing.{appliers_beside}
use Rattle.world_movers.proofs.Seats.{sessions_beside}
use Rattle.world_movers.proofs.movers.Movers.lost.Goals as goal

pub returns-in-Session : goal.returns-in-Session
returns-in-Session c = λ config given h to stands goes.
    let i = c.in-Session.number in
    let a = Session i in
    let step = c.lost.result in
    let there = subst (λ (w : Mover). awaited (flight (actor_of w) h) ≡ Some to) c.in-Session.is goes in
    let made = c.lost.ensures config given h to stands.sessions there in
    let moves = move_by config a (own a h) step.entry (λ never. never) made.0.actor made.0.allowed in
    rw c.in-Session.is (
      subst (λ (n : NextEvent). HearsMemory config a n (own a h) to step) (sym (c.events_are_own.ensures.events given config a h)) made.0,
      record { sessions = made.1; appliers = appliers_beside config h i step.entry c.args.self.now.appliers stands.appliers moves },
    )

pub returns-in-Applier : goal.returns-in-Applier
returns-in-Applier c = λ config given h to stands goes.
    let k = c.in-Applier.tablet in
    let a = Applier k in
    let step = c.lost-in-Applier.result in
    let there = subst (λ (w : Mover). awaited (flight (actor_of w) h) ≡ Some to) c.in-Applier.is goes in
    let made = c.lost-in-Applier.ensures config h to (all_done given config h) stands.appliers there in
    let moves = move_by config a (own a h) step.entry (λ never. never) made.0.actor made.0.allowed in
    rw c.in-Applier.is (
      subst (λ (n : NextEvent). HearsMemory config a n (own a h) to step) (sym (c.events_are_own.ensures.events given config a h)) made.0,
      record { sessions = sessions_beside config given h k step.entry c.args.self.now.sessions stands.sessions moves; appliers = made.1 },
    )
