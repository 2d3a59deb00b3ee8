use Rattle.std.proofs.Common.{◌≡◌, ℕ, None, take}
use Rattle.std.specs.List.{fold}
use Rattle.status_tablet.specs.Keeps.{kept_at, kept_after}
use Rattle.status_tablet.proofs.txn_records.TxnRecords.replayed.Given as goal

abbrev pub invariant-loop-logged : goal.invariant-loop-logged
invariant-loop-logged l = (x : ℕ) → kept_at l.all.map.entries x ≡ fold (λ kept r. kept_after r x kept) None (take l.logged-index l.records)
