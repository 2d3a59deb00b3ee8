use Rattle.std.proofs.Common.{sym, ap, subst, ◌∙◌, length}
use Rattle.mover_seat.specs.Made.{starts_made}
use Rattle.mover_seat.specs.Session.{Comes}
use Rattle.mover_seat.specs.declared.made.Made.{Made}
use Rattle.session_core.specs.Core.{commands_of}
use Rattle.mover_seat.proofs.Sessions.{begun_comes, few_begun}
use Rattle.mover_seat.proofs.session_work.begin.Goals as goal

pub returns-clause-some : goal.returns-clause-some
returns-clause-some c = λ config i given all begun m f reading come.
    let core = c.args.core.now in
    let l = c.args.lines.now in
    let d = c.start.new.self in
    let k = c.take.new.self in
    let line = c.in_ok-line.line in
    let P : Made → Type 0 = λ made. Comes config i given all begun m f reading made d k in
    let made = c.starts.ensures ∙ ap (starts_made c.commands.result line) c.of-stage.ensures.stage in
    let few = few_begun (commands_of core) (length l.left.items) l.given l.ended c.requires.counted l.few in
    let taken = c.in_ok-line.ensures.some in
    subst P (sym made) (begun_comes config i given all begun m f core d l k line c.commands.result c.is_open.result c.start.result reading come c.start.ensures.named c.start.ensures.commands c.commands.ensures few (c.start.ensures.turn config come.of) taken.1 taken.0 (c.is_open.ensures config))
