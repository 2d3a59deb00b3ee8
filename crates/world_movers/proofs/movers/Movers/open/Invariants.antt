use Rattle.std.proofs.Common.{true, [], take}
use Rattle.world_movers.specs.Sessions.{SessionsStand}
use Rattle.world_movers.proofs.movers.Movers.open.Given as goal

abbrev pub invariant-loop-one : goal.invariant-loop-one
invariant-loop-one l = SessionsStand l.config (record { sessions = take l.one-index l.one-items; all = true }) [] l.sessions
