use Rattle.std.proofs.Common.{ℕ, ◌+◌, Option, None, sym, ap, ◌∙◌, subst}
use Rattle.txn_data.specs.declared.actor.Actor.TheVariants.{Session}
use Rattle.txn_data.specs.declared.event.Event.TheVariants as event
use Rattle.txn_types.specs.Run.{Mover, mover_after}
use Rattle.session_core.specs.Core.{mover, Answered, Went}
use Rattle.session_core.specs.SessionState.{keeps, who}
use Rattle.session_core.specs.Mover.{between, within, mover_on}
use Rattle.session_core.specs.declared.command_in_flight.CommandInFlight.{CommandInFlight}
use Rattle.session_core.proofs.Answering.{same_of, answered_none}
use Rattle.session_core.proofs.Movers.{none_is}
use Rattle.session_core.proofs.session_core.SessionCore.start.Goals as goal

pub returns-in-Ok-clause-turn : goal.returns-in-Ok-clause-turn
unfolding mover
returns-in-Ok-clause-turn c = λ config is.
    let core = c.args.self.now in
    let i = core.state.session in
    let s = keeps core.state in
    let n = core.commands in
    let a = who core.state in
    let u = c.in-Ok.in_flight in
    let started = c.start.ensures in
    let state = c.start.new.state in
    let new = same_of config core.state state started.named is in
    let after = mover config c.go_on.new.self in
    let Q : ℕ → Type 0 = λ j. Went config (Session j) (within config j (keeps state) (n + 1) u) None after c.go_on.result in
    let R : Mover → Type 0 = λ m. Went config a m None after c.go_on.result in
    let S : Option CommandInFlight → Type 0 = λ o. Answered config a (mover_after config a (mover_on config i s n o) None (event.Start (n + 1) c.args.command.now)) None after c.go_on.result in
    let went = subst Q started.named.session (c.go_on.ensures.turn config new) in
    let begun = subst R (ap (λ t. within config i t (n + 1) u) started.keeps ∙ c.in-Ok.ensures.mover config n is) went in
    subst S (sym (none_is core.in_flight c.requires.idle)) (answered_none config a (mover_after config a (between s n) None (event.Start (n + 1) c.args.command.now)) after c.go_on.result begun)
