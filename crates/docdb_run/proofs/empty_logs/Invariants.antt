use Rattle.std.proofs.Common.{◌≡◌, [], All}
use Rattle.docdb_run.proofs.empty_logs.Given as goal

abbrev pub invariant-loop : goal.invariant-loop
invariant-loop l = All (λ log. (log.held ≡ []) × (log.faults ≡ 0)) l.logs.items
