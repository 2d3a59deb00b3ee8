-- The parts that the answer is put together from.
use Rattle.std.specs.Prelude.{ℕ, List, nat_le, filter}
use Rattle.txn_data.specs.declared.committed_txn.CommittedTxn.{CommittedTxn}
use Rattle.txn_types.specs.Lists.{sorted_by}
use Rattle.txn_types.specs.Committed.{commits_before}

-- what is committed not later than t, in the order of commits: the fold before its writes are joined
abbrev pub committed_until : ℕ → List CommittedTxn → List CommittedTxn
committed_until t list = sorted_by commits_before (filter (λ (x : CommittedTxn). nat_le x.at t) list)
