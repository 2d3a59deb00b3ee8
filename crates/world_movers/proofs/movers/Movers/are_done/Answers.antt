use Rattle.std.proofs.Common.{◌∙◌}
use Rattle.world_movers.proofs.Done.{all_told}
use Rattle.world_movers.proofs.movers.Movers.are_done.Goals as goal

pub returns : goal.returns
returns c = λ config given h stands. c.are_done.ensures ∙ all_told config given h c.args.self.now.sessions c.events_are_own.ensures.events stands.sessions
