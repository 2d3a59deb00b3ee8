use Rattle.std.proofs.Common.{◌≡◌, Option, ap, sym, ◌∙◌, subst}
use Rattle.txn_types.specs.Run.{limits_of}
use Rattle.txn_types.specs.Session.{keeps_after}
use Rattle.session_core.specs.SessionState.{keeps}
use Rattle.session_core.specs.Mover.{between, mover_on}
use Rattle.session_core.specs.Core.{mover}
use Rattle.session_core.specs.Work.{limits_now}
use Rattle.session_core.specs.declared.command_in_flight.CommandInFlight.{CommandInFlight}
use Rattle.session_core.proofs.Movers.{none_is}
use Rattle.session_core.proofs.session_core.SessionCore.tell.Goals as goal

pub returns-clause-mover : goal.returns-clause-mover
unfolding mover
returns-clause-mover c = λ config n is.
    let core = c.args.self.now in
    let s = keeps core.state in
    let held = c.into_limits.ensures (limits_of s.opened) in
    let after = keeps_after config core.state.session s c.args.in_flight.line c.args.in_flight.reading (limits_now (limits_of s.opened) c.args.in_flight.work) c.args.told in
    let S : Option CommandInFlight → Type 0 = λ o. mover_on config c.tell.new.self.session (keeps c.tell.new.self) core.commands o ≡ between after core.commands in
    subst S (sym (none_is core.in_flight c.requires.idle))
    (ap (λ k. between k core.commands) (c.tell.ensures.keeps config is ∙ ap (λ l. keeps_after config core.state.session s c.args.in_flight.line c.args.in_flight.reading l c.args.told) held))
