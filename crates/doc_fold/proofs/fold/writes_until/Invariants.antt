use Rattle.std.proofs.Common.{◌≡◌, ◌++◌, take}
use Rattle.std.specs.Prelude.{flat_map}
use Rattle.txn_data.specs.declared.committed_txn.CommittedTxn.{CommittedTxn}
use Rattle.doc_fold.proofs.fold.writes_until.Given as goal

abbrev pub invariant-loop-txn : goal.invariant-loop-txn
invariant-loop-txn l = l.writes ≡ flat_map (λ (x : CommittedTxn). x.writes) (take l.txn-index l.txn-items)

abbrev pub invariant-loop-write : goal.invariant-loop-write
invariant-loop-write l = l.writes ≡ flat_map (λ (x : CommittedTxn). x.writes) (take l.txn-index l.txn-items) ++ take l.write-index l.write-items
