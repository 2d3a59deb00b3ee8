use Rattle.std.proofs.Common.{◌≡◌, take}
use Rattle.txn_types.specs.ReadProgram.{paths_on as paths_at}
use Rattle.read_plan.proofs.places.paths_on.Given as goal

abbrev pub invariant-loop-place : goal.invariant-loop-place
invariant-loop-place l = l.paths ≡ paths_at l.tablet (take l.place-index l.places)
