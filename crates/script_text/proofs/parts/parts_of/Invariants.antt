use Rattle.std.proofs.Common.{◌≤◌, length}
use Rattle.script_text.proofs.Fronts.{IsParted}
use Rattle.script_text.proofs.parts.parts_of.Given as goal

abbrev pub invariant-lines : goal.invariant-lines
invariant-lines l = IsParted l.bytes l.rest l.before × (length l.rest ≤ length l.bytes)

abbrev pub decreases-lines : goal.decreases-lines
decreases-lines l = length l.rest
