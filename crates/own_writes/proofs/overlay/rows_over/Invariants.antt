use Rattle.std.proofs.Common.{◌≡◌, List, map}
use Rattle.txn_data.specs.declared.written.Written.{Written}
use Rattle.txn_types.specs.Session.{row_under}
use Rattle.regular_records.specs.Holding.{Holds}
use Rattle.own_writes.specs.Numbered.{numbered}
use Rattle.own_writes.proofs.overlay.rows_over.Given as goal

abbrev pub invariant-loop-row : goal.invariant-loop-row
invariant-loop-row l = (ws : List Written) → Holds l.own (numbered 0 ws) → l.over ≡ map (row_under ws) l.yielded
