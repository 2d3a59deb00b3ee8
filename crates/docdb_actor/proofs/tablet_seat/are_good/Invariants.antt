use Rattle.std.proofs.Common.{ℕ, ◌<◌, get_or}
use Rattle.doc_path.specs.Path.{Parts}
use Rattle.tablet_core.specs.Requests.{IsGood}
use Rattle.docdb_actor.proofs.tablet_seat.are_good.Given as goal

abbrev pub invariant-paths : goal.invariant-paths
invariant-paths l = (k : ℕ) (d : Parts) → k < l.path-index → IsGood (λ _. Unit {0}) (get_or l.paths k d)
