use Rattle.std.proofs.Common.{subst}
use Rattle.mover_seat.specs.Pass.{HasCome}
use Rattle.mover_seat.specs.declared.stage.Stage.{Stage}
use Rattle.mover_seat.proofs.pass_work.next_of.Goals as goal

pub returns-in-Hears-clause-some : goal.returns-in-Hears-clause-some
returns-in-Hears-clause-some c = λ config done m f come may.
    let A : Stage → Type 0 = λ at. HasCome config c.args.tablet c.args.begun.now m f c.args.pass.now at in
    c.hear.ensures.come config c.args.tablet c.args.begun.now done m f (subst A c.in-Hears.is come)
