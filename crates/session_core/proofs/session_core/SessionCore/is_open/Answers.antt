use Rattle.std.proofs.Common.{◌∙◌}
use Rattle.session_core.specs.Core.{mover}
use Rattle.session_core.proofs.Movers.{is_open}
use Rattle.session_core.proofs.session_core.SessionCore.is_open.Goals as goal

pub returns : goal.returns
unfolding mover
returns c = λ config.
    let core = c.args.self.now in
    c.is_some.ensures ∙ is_open config core.state.session core.state core.commands core.in_flight
