use Rattle.std.proofs.Common.{sym, subst}
use Rattle.mover_seat.specs.Pass.{Comes}
use Rattle.mover_seat.specs.declared.made.Made.{Made}
use Rattle.mover_seat.proofs.Passes.{heard_pass, held_hears}
use Rattle.mover_seat.proofs.pass_work.hear.Goals as goal

pub returns-clause-come : goal.returns-clause-come
returns-clause-come c = λ config k begun done m f come.
    let pass = c.args.pass.now in
    let from = c.args.from in
    let r = c.args.reply in
    let held = held_hears pass from r c.requires in
    let P : Made → Type 0 = λ made. Comes config k done begun m f made begun c.heard-stage.new.pass in
    subst P (sym c.hears.ensures) (heard_pass config k done begun m f pass c.heard-stage.new.pass held.0 from r c.heard-stage.result come held.1 (c.heard-stage.ensures.on held.0 held.1))
