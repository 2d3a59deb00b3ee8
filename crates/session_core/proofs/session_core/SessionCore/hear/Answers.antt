use Rattle.std.proofs.Common.{◌≡◌, true, Option, Some, None, sym, ◌∙◌, subst}
use Rattle.txn_data.specs.declared.event.Event.TheVariants as event
use Rattle.txn_data.specs.declared.told.Told.{Told}
use Rattle.txn_data.specs.declared.told.Told.TheVariants as told
use Rattle.txn_data.specs.declared.told_refusal.ToldRefusal.TheVariants as told_refusal
use Rattle.txn_types.specs.Run.{Mover, mover_after}
use Rattle.session_core.specs.Core.{mover, Answered, Went}
use Rattle.session_core.specs.SessionState.{keeps, who}
use Rattle.session_core.specs.Mover.{within, mover_on}
use Rattle.session_core.specs.declared.command_in_flight.CommandInFlight.{CommandInFlight}
use Rattle.session_core.proofs.Answering.{answered_none, lost_within}
use Rattle.session_core.proofs.session_core.SessionCore.hear.Goals as goal

pub hear-requires-clause-sound : goal.hear-requires-clause-sound
hear-requires-clause-sound c = c.args.self.now.sound c.in-Some.in_flight (sym c.take.ensures.value ∙ c.in-Some.is)

pub hear-requires-clause-room : goal.hear-requires-clause-room
hear-requires-clause-room c = (c.args.self.now.fitting c.in-Some.in_flight (sym c.take.ensures.value ∙ c.in-Some.is)).limit

pub tell-requires-clause-range : goal.tell-requires-clause-range
tell-requires-clause-range c = λ micros e.
    (c.args.self.now.sound c.in-Some.in_flight (sym c.take.ensures.value ∙ c.in-Some.is)).in_range micros (sym c.hear.ensures.reading ∙ e)

pub returns-in-Ok-clause-turn : goal.returns-in-Ok-clause-turn
unfolding mover
returns-in-Ok-clause-turn c = λ config is.
    let core = c.args.self.now in
    let i = core.state.session in
    let s = keeps core.state in
    let n = core.commands in
    let a = who core.state in
    let u = c.in-Some.in_flight in
    let was : core.in_flight ≡ Some u = sym c.take.ensures.value ∙ c.in-Some.is in
    let after = mover config c.go_on.new.self in
    let m = mover_after config a (within config i s n u) None (event.Hear c.args.from c.args.reply.now) in
    let R : Mover → Type 0 = λ x. Went config a x None after c.go_on.result in
    let S : Option CommandInFlight → Type 0 = λ o. Answered config a (mover_after config a (mover_on config i s n o) None (event.Hear c.args.from c.args.reply.now)) None after c.go_on.result in
    subst S (sym was) (answered_none config a m after c.go_on.result (subst R (c.in-Ok.ensures.mover config i s n) (c.go_on.ensures.turn config is)))

pub returns-in-Err-clause-turn : goal.returns-in-Err-clause-turn
unfolding mover
returns-in-Err-clause-turn c = λ config is.
    let core = c.args.self.now in
    let i = core.state.session in
    let s = keeps core.state in
    let n = core.commands in
    let a = who core.state in
    let u = c.in-Some.in_flight in
    let was : core.in_flight ≡ Some u = sym c.take.ensures.value ∙ c.in-Some.is in
    let after = mover config c.tell.new.self in
    let lost : Told = told.Refused told_refusal.Memory in
    let S : Option CommandInFlight → Type 0 = λ o. let m : Mover = mover_after config a (mover_on config i s n o) None (event.Hear c.args.from c.args.reply.now) in (m.may_lose ≡ true) × (after ≡ mover_after config a m None (event.Tell m.commands lost)) in
    subst S (sym was) (c.in-Err.ensures.room, c.tell.ensures.mover config n is ∙ lost_within config i s n n n u c.hear.new.self lost c.args.from c.args.reply.now c.hear.ensures.line c.hear.ensures.reading (c.hear.ensures.limits s))
