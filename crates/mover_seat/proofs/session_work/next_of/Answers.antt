use Rattle.std.proofs.Common.{refl, sym, subst}
use Rattle.mover_seat.specs.Session.{HasCome, Comes}
use Rattle.mover_seat.specs.declared.made.Made.{Made}
use Rattle.mover_seat.specs.declared.stage.Stage.{Stage}
use Rattle.mover_seat.proofs.Sessions.{due_told}
use Rattle.mover_seat.proofs.session_work.next_of.Goals as goal

pub returns-in-Between-clause-some : goal.returns-in-Between-clause-some
returns-in-Between-clause-some c = λ config i given all begun m f come.
    let A : Stage → Type 0 = λ at. HasCome config i given all begun m f c.args.core.now c.args.lines.now at in
    c.begin.ensures.some config i given all begun m f c.args.reading (subst A c.in-Between.is come)

pub returns-in-Between-clause-none : goal.returns-in-Between-clause-none
returns-in-Between-clause-none c = λ config i given all begun m f come.
    let A : Stage → Type 0 = λ at. HasCome config i given all begun m f c.args.core.now c.args.lines.now at in
    c.begin.ensures.none config i given all begun m f (subst A c.in-Between.is come)

pub returns-in-Reads-clause-some : goal.returns-in-Reads-clause-some
returns-in-Reads-clause-some c = λ config i given all begun m f come.
    let A : Stage → Type 0 = λ at. HasCome config i given all begun m f c.args.core.now c.args.lines.now at in
    c.read.ensures.come config i given all begun m f (subst A c.in-Reads.is come)

pub returns-in-Tells-clause-some : goal.returns-in-Tells-clause-some
returns-in-Tells-clause-some c = λ config i given all begun m f come.
    let core = c.args.core.now in
    let A : Stage → Type 0 = λ at. HasCome config i given all begun m f core c.args.lines.now at in
    let P : Made → Type 0 = λ made. Comes config i given all begun m f c.args.reading made core c.args.lines.now in
    subst P (sym c.tell.ensures) (due_told config i given all begun m f core c.args.lines.now c.args.reading _ c.in-Tells.told (subst A c.in-Tells.is come) refl)

pub returns-in-Hears-clause-some : goal.returns-in-Hears-clause-some
returns-in-Hears-clause-some c = λ config i given all begun m f come.
    let A : Stage → Type 0 = λ at. HasCome config i given all begun m f c.args.core.now c.args.lines.now at in
    c.hear.ensures.come config i given all begun m f c.args.lines.now c.args.reading (subst A c.in-Hears.is come)
