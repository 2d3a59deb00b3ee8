use Rattle.std.proofs.Common.{◌≡◌, None, take}
use Rattle.std.specs.List.{fold}
use Rattle.tablet_log.specs.Replay.{lease_after}
use Rattle.leased_log.proofs.leased_log.lease_in.Given as goal

abbrev pub invariant-loop-logged : goal.invariant-loop-logged
invariant-loop-logged l = l.end ≡ fold lease_after None (take l.logged-index l.records)
