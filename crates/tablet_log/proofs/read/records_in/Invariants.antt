use Rattle.std.proofs.Common.{◌≡◌, ◌++◌, ◌≤◌, length}
use Rattle.std.specs.List.{AllByRecursion}
use Rattle.tablet_log.specs.Frames.{frames, IsRecord}
use Rattle.tablet_log.proofs.read.records_in.Given as goal

abbrev pub invariant-loop-rest : goal.invariant-loop-rest
invariant-loop-rest l = AllByRecursion IsRecord l.records.items × (l.bytes ≡ frames l.records.items ++ l.rest) × (length l.rest ≤ length l.bytes)

abbrev pub decreases-loop-rest : goal.decreases-loop-rest
decreases-loop-rest l = length l.rest
