use Rattle.std.proofs.Common.{false, [], ◌∷◌, ◌++◌}
use Rattle.std.proofs.lemmas.Result.{err_from_is_err_and}
use Rattle.txn_data.specs.declared.actor.Actor.TheVariants.{Session}
use Rattle.txn_types.specs.History.{own}
use Rattle.txn_types.specs.Run.{flight}
use Rattle.world_movers.proofs.session_slot.SessionSlot.give.Goals as goal

pub returns-in_err-give-clause-memory : goal.returns-in_err-give-clause-memory
returns-in_err-give-clause-memory c = λ config i given h stands.
    let a = Session i in
    let p = err_from_is_err_and c.from_residual.result c.from_residual.ensures.1 in
    let seat = c.in_err-give.ensures.memory config i given (own a h) (flight a h) stands.seat in
    rw p.1 (record { seat = seat; asked = stands.asked; left = stands.left })

pub returns-clause-stands : goal.returns-clause-stands
returns-clause-stands c = λ config i given h stands line.
    let a = Session i in
    let seat = c.in_ok-give.ensures.stands config i given (own a h) (flight a h) stands.seat line in
    record { seat = seat; asked = stands.asked; left = c.left-self.ensures config i (given ++ c.args.line ∷ []) false (own a h) (flight a h) seat }
