use Rattle.std.proofs.Common.{sym, ap, subst, ◌∙◌}
use Rattle.mover_seat.specs.Made.{hears_made}
use Rattle.mover_seat.specs.Session.{Comes}
use Rattle.mover_seat.specs.declared.made.Made.{Made}
use Rattle.mover_seat.proofs.Sessions.{heard_comes}
use Rattle.mover_seat.proofs.session_work.hear.Goals as goal

pub returns-clause-come : goal.returns-clause-come
returns-clause-come c = λ config i given all begun m f lines reading come.
    let d = c.hear.new.self in
    let P : Made → Type 0 = λ made. Comes config i given all begun m f reading made d lines in
    let made = c.hears.ensures ∙ ap (hears_made c.args.from c.args.reply) c.of-stage.ensures.stage in
    subst P (sym made) (heard_comes config i given all begun m f c.args.core.now d lines c.args.from c.args.reply c.hear.result reading come c.hear.ensures.named c.hear.ensures.commands (c.hear.ensures.turn config come.of))
