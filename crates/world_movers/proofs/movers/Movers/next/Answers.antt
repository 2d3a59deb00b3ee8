use Rattle.std.proofs.Common.{Bool, ap, sym, subst, ◌∙◌}
use Rattle.std.proofs.lemmas.Option.{IfSome_then}
use Rattle.txn_data.specs.declared.actor.Actor.TheVariants.{Session, Applier}
use Rattle.txn_types.specs.History.{own}
use Rattle.txn_types.specs.Run.{flight}
use Rattle.mover_chain.specs.NextEvent.{NextEvent, is_left}
use Rattle.mover_seat.specs.Step.{IsStep}
use Rattle.world_movers.specs.Appliers.{next_of}
use Rattle.world_movers.proofs.Entries.{move_by}
use Rattle.world_movers.proofs.Passing.{appliers_beside}
use Rattle.world_movers.proofs.Seats.{sessions_beside}
use Rattle.world_movers.proofs.movers.Movers.next.Goals as goal

pub returns-in-Session-clause-some : goal.returns-in-Session-clause-some
returns-in-Session-clause-some c = λ config given h stands here.
    let i = c.in-Session.number in
    let a = Session i in
    let next = c.events_are_own.ensures.events given config a h in
    rw c.in-Session.is (IfSome_then c.next.result (c.next.ensures.some config given h stands.sessions here) (λ step made. (
      subst (λ (n : NextEvent). IsStep config a n c.args.reading (own a h) (flight a h) step) (sym next) made.0,
      record {
        sessions = made.1;
        appliers = appliers_beside config h i step.entry c.args.self.now.appliers stands.appliers (move_by config a (own a h) step.entry (λ never. never) made.0.actor made.0.allowed);
      },
    )))

pub returns-in-Session-clause-none : goal.returns-in-Session-clause-none
returns-in-Session-clause-none c = λ config given h stands none.
    let over = c.next.ensures.none config given h stands.sessions none in
    let next = c.events_are_own.ensures.events given config (Session c.in-Session.number) h in
    rw c.in-Session.is (ap is_left next ∙ over.0, record { sessions = over.1; appliers = stands.appliers })

pub returns-in-Applier-clause-some : goal.returns-in-Applier-clause-some
returns-in-Applier-clause-some c = λ config given h stands here.
    let k = c.in-Applier.tablet in
    let a = Applier k in
    let done = c.are_done-done.ensures config given h stands in
    let next = c.events_are_own.ensures.events given config a h ∙ ap (λ (b : Bool). next_of b config k h) (sym done) in
    rw c.in-Applier.is (IfSome_then c.next-in-Applier.result (c.next-in-Applier.ensures.some config h stands.appliers here) (λ step made.
    let mine = (made c.args.reading).0 in (
      subst (λ (n : NextEvent). IsStep config a n c.args.reading (own a h) (flight a h) step) (sym next) mine,
      record {
        sessions = sessions_beside config given h k step.entry c.args.self.now.sessions stands.sessions (move_by config a (own a h) step.entry (λ never. never) mine.actor mine.allowed);
        appliers = (made c.args.reading).1;
      },
    )))

pub returns-in-Applier-clause-none : goal.returns-in-Applier-clause-none
returns-in-Applier-clause-none c = λ config given h stands none.
    let k = c.in-Applier.tablet in
    let done = c.are_done-done.ensures config given h stands in
    let over = c.next-in-Applier.ensures.none config h stands.appliers none in
    let next = c.events_are_own.ensures.events given config (Applier k) h ∙ ap (λ (b : Bool). next_of b config k h) (sym done) in
    rw c.in-Applier.is (ap is_left next ∙ over.0, record { sessions = stands.sessions; appliers = over.1 })
