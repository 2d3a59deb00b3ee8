use Rattle.std.proofs.Common.{◌≡◌, ap, sym, subst, ◌∙◌}
use Rattle.txn_data.specs.declared.mover.Mover.{Mover}
use Rattle.txn_types.specs.Run.{Asked, flight}
use Rattle.txn_types.specs.Script.{actor_of}
use Rattle.world_movers.specs.Movers.{takes_lists}
use Rattle.world_movers.proofs.movers.Movers.awaits.Goals as goal

pub returns-in-Session-clause-some : goal.returns-in-Session-clause-some
returns-in-Session-clause-some c = λ config given h stands. rw c.in-Session.is (c.awaits.ensures.some config given h stands.sessions)

pub returns-in-Session-clause-none : goal.returns-in-Session-clause-none
returns-in-Session-clause-none c = λ config given h stands none. rw c.in-Session.is (c.awaits.ensures.none config given h stands.sessions none)

pub returns-in-Session-clause-listing : goal.returns-in-Session-clause-listing
returns-in-Session-clause-listing c = λ config given h to asked stands asks lists.
    let there = subst (λ (w : Mover). flight (actor_of w) h ≡ Asked to asked) c.in-Session.is asks in
    ap (takes_lists c.args.self.now) c.in-Session.is ∙ c.awaits.ensures.listing config given h to asked stands.sessions there lists

pub returns-in-Applier-clause-some : goal.returns-in-Applier-clause-some
returns-in-Applier-clause-some c = λ config given h stands. rw c.in-Applier.is (c.awaits-in-Applier.ensures.some config h stands.appliers)

pub returns-in-Applier-clause-none : goal.returns-in-Applier-clause-none
returns-in-Applier-clause-none c = λ config given h stands none. rw c.in-Applier.is (c.awaits-in-Applier.ensures.none config h stands.appliers none)
