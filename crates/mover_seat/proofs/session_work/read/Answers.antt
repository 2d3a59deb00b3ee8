use Rattle.std.proofs.Common.{◌≡◌, refl, sym, subst}
use Rattle.txn_types.specs.Program.{turn_with}
use Rattle.session_core.specs.Core.{commands_of, mover, session_of, turned, Stands}
use Rattle.session_core.specs.Turn.{turn_of}
use Rattle.session_core.specs.declared.turn.Turn.{Turn}
use Rattle.std.specs.Prelude.{Some}
use Rattle.mover_seat.specs.Session.{Comes}
use Rattle.mover_seat.specs.declared.made.Made.{Made}
use Rattle.mover_seat.proofs.Sessions.{read_asks, read_tells, read_loses}
use Rattle.mover_seat.proofs.session_work.read.Goals as goal

pub returns-in-Ok-Ask-clause-come : goal.returns-in-Ok-Ask-clause-come
returns-in-Ok-Ask-clause-come c = λ config i given all begun m f come.
    let core = c.args.core.now in
    let d = c.given.new.self in
    let l = c.args.lines.now in
    let reading = c.args.reading in
    let P : Made → Type 0 = λ made. Comes config i given all begun m f reading made d l in
    let T : Turn → Type 0 = λ t. (turn_of t ≡ turn_with (mover config core).rest (Some reading)) × (mover config d ≡ turned config (session_of core) (mover config core) (Some reading) (turn_of t)) in
    let answered = subst T c.in-Ok-Ask.field-0-is (c.in-Ok-Ask.ensures.turn config come.of) in
    let stands = subst (λ (t : Turn). Stands d t) c.in-Ok-Ask.field-0-is c.in-Ok-Ask.ensures.stands in
    subst P (sym c.asks.ensures) (read_asks config i given all begun m f core d l reading c.in-Ok-Ask.to c.in-Ok-Ask.request come c.given.ensures.named c.given.ensures.commands answered.0 answered.1 stands.1)

pub returns-in-Ok-Tell-clause-come : goal.returns-in-Ok-Tell-clause-come
returns-in-Ok-Tell-clause-come c = λ config i given all begun m f come.
    let core = c.args.core.now in
    let d = c.given.new.self in
    let l = c.args.lines.now in
    let reading = c.args.reading in
    let P : Made → Type 0 = λ made. Comes config i given all begun m f reading made d l in
    let T : Turn → Type 0 = λ t. (turn_of t ≡ turn_with (mover config core).rest (Some reading)) × (mover config d ≡ turned config (session_of core) (mover config core) (Some reading) (turn_of t)) in
    let answered = subst T c.in-Ok-Tell.field-0-is (c.in-Ok-Tell.ensures.turn config come.of) in
    subst P (sym c.tell.ensures) (read_tells config i given all begun m f core d l reading (commands_of d) c.in-Ok-Tell.told come c.given.ensures.named c.given.ensures.commands refl answered.0 answered.1)

pub returns-in-Err-clause-come : goal.returns-in-Err-clause-come
returns-in-Err-clause-come c = λ config i given all begun m f come.
    let core = c.args.core.now in
    let d = c.given.new.self in
    let l = c.args.lines.now in
    let reading = c.args.reading in
    let P : Made → Type 0 = λ made. Comes config i given all begun m f reading made d l in
    let lost = c.in-Err.ensures.turn config come.of in
    subst P (sym c.tell-in-Err.ensures) (read_loses config i given all begun m f core d l reading (commands_of d) come c.given.ensures.named c.given.ensures.commands refl lost.0 lost.1)
