use Rattle.std.proofs.Common.{◌≡◌, ◌-◌, ◌^◌, length, min, take}
use Rattle.tablet_log.specs.Frames.{frames}
use Rattle.tablet_log.proofs.write.frames_len.Given as goal

abbrev pub invariant-loop-logged : goal.invariant-loop-logged
invariant-loop-logged l = l.len ≡ min (length (frames (take l.logged-index l.records))) (2 ^ 64 - 1)
