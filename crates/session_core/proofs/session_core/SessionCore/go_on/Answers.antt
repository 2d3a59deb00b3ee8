use Rattle.std.proofs.Common.{◌≡◌, ℕ, Option, None, sym, ap, ◌∙◌, subst}
use Rattle.txn_data.specs.declared.actor.Actor.TheVariants.{Session}
use Rattle.txn_data.specs.declared.event.Event.TheVariants as event
use Rattle.txn_data.specs.declared.told.Told.{Told}
use Rattle.txn_data.specs.declared.told.Told.TheVariants as told
use Rattle.txn_data.specs.declared.told_refusal.ToldRefusal.TheVariants as told_refusal
use Rattle.txn_types.specs.Lists.{or_else}
use Rattle.txn_types.specs.Program.{turn}
use Rattle.txn_types.specs.Run.{Mover, mover_after}
use Rattle.session_core.specs.Core.{mover, went}
use Rattle.session_core.specs.SessionState.{keeps, who}
use Rattle.session_core.specs.Mover.{within}
use Rattle.session_core.specs.Turn.{turn_of, is_ask, is_wanting}
use Rattle.session_core.specs.Work.{work_rest}
use Rattle.session_core.specs.declared.turn.Turn.{Turn as Made}
use Rattle.session_core.specs.declared.command_in_flight.CommandInFlight.{CommandInFlight}
use Rattle.session_core.proofs.Movers.{told_within, or_first}
use Rattle.session_core.proofs.Answering.{same_of}
use Rattle.session_core.proofs.session_core.SessionCore.go_on.Goals as goal

pub returns-in-Ok-Tell-clause-turn : goal.returns-in-Ok-Tell-clause-turn
returns-in-Ok-Tell-clause-turn c = λ config is.
    let core = c.args.self.now in
    let i = core.state.session in
    let s = keeps core.state in
    let n = core.commands in
    let u = c.args.in_flight in
    let next = c.next.ensures in
    let new = same_of config core.state c.next.new.state next.named is in
    let Q : ℕ → Type 0 = λ j. mover config c.tell.new.self ≡ mover_after config (Session j) (within config j (keeps c.next.new.state) n c.next.new.self) None (event.Tell n c.in-Ok-Tell.told) in
    let told = subst Q next.named.session (c.tell.ensures.mover config n new) in
    let A : Made → Type 0 = λ t. turn_of t ≡ turn (work_rest config i s u.line u.work) in
    let P : Made → Type 0 = λ t. (turn_of t ≡ turn (work_rest config i s u.line u.work)) × (mover config c.tell.new.self ≡ went config (who core.state) (within config i s n u) c.args.reading (turn_of t)) in
    subst P (sym c.tell.ensures.told) (subst A c.in-Ok-Tell.field-0-is (c.in-Ok-Tell.ensures.turn config n is), told ∙ told_within config i s (keeps c.next.new.state) n n n u c.next.new.self c.in-Ok-Tell.told next.keeps next.line next.reading (next.limits s))

pub returns-in-Err-clause-turn : goal.returns-in-Err-clause-turn
returns-in-Err-clause-turn c = λ config is.
    let core = c.args.self.now in
    let i = core.state.session in
    let s = keeps core.state in
    let n = core.commands in
    let u = c.args.in_flight in
    let next = c.next.ensures in
    let new = same_of config core.state c.next.new.state next.named is in
    let lost : Told = told.Refused told_refusal.Memory in
    let Q : ℕ → Type 0 = λ j. mover config c.tell-in-Err.new.self ≡ mover_after config (Session j) (within config j (keeps c.next.new.state) n c.next.new.self) None (event.Tell n lost) in
    let told = subst Q next.named.session (c.tell-in-Err.ensures.mover config n new) in
    (c.in-Err.ensures.memory, told ∙ told_within config i s (keeps c.next.new.state) n n n u c.next.new.self lost next.keeps next.line next.reading (next.limits s))

pub returns-in-Ok-Ask-clause-turn : goal.returns-in-Ok-Ask-clause-turn
unfolding mover
returns-in-Ok-Ask-clause-turn c = λ config is.
    let core = c.args.self.now in
    let i = core.state.session in
    let s = keeps core.state in
    let n = core.commands in
    let u = c.args.in_flight in
    let v = c.next.new.self in
    let next = c.next.ensures in
    let A : Made → Type 0 = λ t. turn_of t ≡ turn (work_rest config i s u.line u.work) in
    let at : Mover → Option ℕ → Mover = λ m r. record m { reading = r } in
    let first : c.or-in_flight.result ≡ or_else u.reading c.args.reading = c.or-in_flight.ensures ∙ or_first v.reading c.args.reading ∙ ap (λ x. or_else x c.args.reading) next.reading in (
      subst A c.in-Ok-Ask.field-0-is (c.in-Ok-Ask.ensures.turn config n is),
      ap (λ j. at (within config j (keeps c.next.new.state) n v) c.or-in_flight.result) next.named.session
          ∙ ap (λ t. at (within config i t n v) c.or-in_flight.result) next.keeps
          ∙ ap (λ m. at m c.or-in_flight.result) (c.in-Ok-Ask.ensures.asks config n (ap is_ask c.in-Ok-Ask.field-0-is))
          ∙ ap (λ r. at (within config i s n u) r) first,
    )

pub returns-in-Ok-Reading-clause-turn : goal.returns-in-Ok-Reading-clause-turn
unfolding mover
returns-in-Ok-Reading-clause-turn c = λ config is.
    let core = c.args.self.now in
    let i = core.state.session in
    let s = keeps core.state in
    let n = core.commands in
    let next = c.next.ensures in
    let A : Made → Type 0 = λ t. turn_of t ≡ turn (work_rest config i s c.args.in_flight.line c.args.in_flight.work) in
    let same = c.in-Ok-Reading.ensures.wants (ap is_wanting c.in-Ok-Reading.field-0-is) in (
      subst A c.in-Ok-Reading.field-0-is (c.in-Ok-Reading.ensures.turn config n is),
      ap (λ j. within config j (keeps c.next.new.state) n c.next.new.self) next.named.session
          ∙ ap (λ t. within config i t n c.next.new.self) next.keeps
          ∙ ap (λ (v : CommandInFlight). within config i s n v) same.0,
    )
