use Rattle.std.proofs.Common.{◌≡◌, take}
use Rattle.tablet_log.specs.Frames.{frames}
use Rattle.tablet_log.proofs.write.frames.Given as goal

abbrev pub invariant-loop-logged : goal.invariant-loop-logged
invariant-loop-logged l = l.bytes.items ≡ frames (take l.logged-index l.records)
