use Rattle.std.proofs.Common.{◌≡◌, true, Option, Some, refl, sym, ap, ◌∙◌, subst}
use Rattle.std.specs.Prelude.{List, Err}
use Rattle.hybrid_time.specs.Time.{least_time}
use Rattle.txn_data.specs.declared.tablet_limit.TabletLimit.{TabletLimit}
use Rattle.txn_data.specs.declared.actor.Actor.TheVariants.{Session}
use Rattle.txn_data.specs.declared.told.Told.{Told}
use Rattle.txn_data.specs.declared.told.Told.TheVariants as told
use Rattle.txn_data.specs.declared.told_refusal.ToldRefusal.TheVariants as told_refusal
use Rattle.txn_types.specs.Program.{Program, Tell, turn, turn_with, with_reading}
use Rattle.txn_types.specs.Run.{Mover, limits_of}
use Rattle.session_core.specs.Core.{mover, turned, gave_up, Answered, Went, of_work}
use Rattle.session_core.specs.SessionState.{keeps, who}
use Rattle.session_core.specs.Mover.{within, mover_on}
use Rattle.session_core.specs.Turn.{turn_of}
use Rattle.session_core.specs.Work.{work_rest, limits_now, is_reading, takes_room}
use Rattle.session_core.specs.declared.turn.Turn.{Turn as Made}
use Rattle.session_core.specs.declared.command_in_flight.CommandInFlight.{CommandInFlight}
use Rattle.session_core.specs.declared.work.Work.{Work}
use Rattle.session_core.specs.declared.work.Work.TheVariants as work
use Rattle.session_core.proofs.Answering.{answered_given}
use Rattle.session_core.proofs.Timed.{timed_turn, timed_range}
use Rattle.session_core.proofs.Programs.{must_lose}
use Rattle.session_core.proofs.session_core.SessionCore.given.Goals as goal

reading_is : (w : Work) → is_reading w ≡ true → w ≡ work.Reading
reading_is work.Reading h = refl
reading_is (work.Over t) h = cc
reading_is (work.Txn p) h = cc
reading_is (work.Read p limits) h = cc
reading_is (work.Apply p) h = cc
reading_is (work.Restart a) h = cc

pub returns-in-Err-clause-turn : goal.returns-in-Err-clause-turn
unfolding mover
returns-in-Err-clause-turn c = λ config is.
    let core = c.args.self.now in
    let i = core.state.session in
    let s = keeps core.state in
    let n = core.commands in
    let a = who core.state in
    let u = c.in-Some.in_flight in
    let reading = c.args.reading in
    let was : core.in_flight ≡ Some u = sym c.take.ensures.value ∙ c.in-Some.is in
    let W : Option CommandInFlight → Type 0 = λ o. of_work (λ (x : CommandInFlight). is_reading x.work) o ≡ true in
    let wants : is_reading u.work ≡ true = subst W was c.requires in
    let work_is = reading_is u.work wants in
    let clocks = (core.sound u was).wanting wants in
    let why = c.in-Err.field-0 in
    let told : Told = told.Refused (told_refusal.ClockRange (Session i) reading) in
    let range : least_time s.last 0 reading ≡ Err why = sym c.at_least.ensures ∙ c.in-Err.is in
    let after = mover config c.tell.new.self in
    let V : Work → Type 0 = λ w. Tell told ≡ turn_with (work_rest config i s u.line w) (Some reading) in
    let P : Made → Type 0 = λ t. (turn_of t ≡ turn_with (work_rest config i s u.line u.work) (Some reading)) × (after ≡ turned config a (within config i s n u) (Some reading) (turn_of t)) in
    let S : Option CommandInFlight → Type 0 = λ o. let m : Mover = mover_on config i s n o in (turn_of c.tell.result ≡ turn_with m.rest (Some reading)) × (after ≡ turned config a m (Some reading) (turn_of c.tell.result)) in
    subst S (sym was) (subst P (sym c.tell.ensures.told) (subst V (sym work_is) (timed_range config i s u.line reading why clocks range), c.tell.ensures.mover config n is))

pub returns-in-Ok-timed_work-clause-turn : goal.returns-in-Ok-timed_work-clause-turn
unfolding mover
returns-in-Ok-timed_work-clause-turn c = λ config is.
    let core = c.args.self.now in
    let i = core.state.session in
    let s = keeps core.state in
    let n = core.commands in
    let a = who core.state in
    let u = c.in-Some.in_flight in
    let reading = c.args.reading in
    let was : core.in_flight ≡ Some u = sym c.take.ensures.value ∙ c.in-Some.is in
    let W : Option CommandInFlight → Type 0 = λ o. of_work (λ (x : CommandInFlight). is_reading x.work) o ≡ true in
    let wants : is_reading u.work ≡ true = subst W was c.requires in
    let work_is = reading_is u.work wants in
    let clocks = (core.sound u was).wanting wants in
    let before = limits_of s.opened in
    let w = c.in-Ok-timed_work.work in
    let after = mover config c.go_on.new.self in
    let m = within config i s n u in
    let done = c.in-Ok-timed_work.ensures in
    let f : Program Told → List TabletLimit → Mover = λ p l. record m { rest = p; limits = l } in
    let rest : work_rest config i s u.line w ≡ with_reading (work_rest config i s u.line u.work) (Some reading) =
    done.program config is ∙ ap (λ x. with_reading (work_rest config i s u.line x) (Some reading)) (sym work_is) in
    let limits : limits_now before w ≡ limits_now before u.work = done.limits ∙ ap (limits_now before) (sym work_is) in
    let R : Mover → Type 0 = λ x. Went config a x (Some reading) after c.go_on.result in
    let V : Work → Type 0 = λ x. turn (with_reading (work_rest config i s u.line x) (Some reading)) ≡ turn_with (work_rest config i s u.line x) (Some reading) in
    let S : Option CommandInFlight → Type 0 = λ o. Answered config a (mover_on config i s n o) (Some reading) after c.go_on.result in
    let gone = subst R (ap (λ p. f p (limits_now before w)) rest ∙ ap (λ l. f (with_reading (work_rest config i s u.line u.work) (Some reading)) l) limits) (c.go_on.ensures.turn config is) in
    subst S (sym was) (answered_given config a m after reading c.go_on.result (subst V (sym work_is) (timed_turn config i s u.line reading clocks)) (c.go_on.ensures.wants done.asks) gone)

pub returns-in-Err-timed_work-clause-turn : goal.returns-in-Err-timed_work-clause-turn
unfolding mover
returns-in-Err-timed_work-clause-turn c = λ config is.
    let core = c.args.self.now in
    let i = core.state.session in
    let s = keeps core.state in
    let n = core.commands in
    let a = who core.state in
    let u = c.in-Some.in_flight in
    let reading = c.args.reading in
    let was : core.in_flight ≡ Some u = sym c.take.ensures.value ∙ c.in-Some.is in
    let W : Option CommandInFlight → Type 0 = λ o. of_work (λ (x : CommandInFlight). is_reading x.work) o ≡ true in
    let wants : is_reading u.work ≡ true = subst W was c.requires in
    let work_is = reading_is u.work wants in
    let clocks = (core.sound u was).wanting wants in
    let after = mover config c.tell-in-Err-timed_work.new.self in
    let S : Option CommandInFlight → Type 0 = λ o. let m : Mover = mover_on config i s n o in (m.may_lose ≡ true) × (after ≡ gave_up config a m) in
    subst S (sym was) (must_lose u.may_lose (takes_room u.work) (core.sound u was).settled (ap takes_room work_is), c.tell-in-Err-timed_work.ensures.mover config n is)
