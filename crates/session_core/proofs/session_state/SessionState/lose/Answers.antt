use Rattle.std.proofs.Common.{refl}
use Rattle.session_core.specs.SessionState.{keeps}
use Rattle.session_core.proofs.Lost.{lost_keeps}
use Rattle.session_core.proofs.session_state.SessionState.lose.Goals as goal

pub returns-clause-keeps : goal.returns-clause-keeps
returns-clause-keeps c = λ config.
    let self = c.args.self.now in
    lost_keeps config self.session (keeps self) c.args.line.now c.serial_after-self.result (c.serial_after-self.ensures.value (keeps self) refl)
