-- The first writes, as they are kept by path.
use Rattle.std.specs.Prelude.{ℕ, List, take}
use Rattle.txn_data.specs.declared.version.Version.{Version}
use Rattle.txn_data.specs.declared.written.Written.{Written}
use Rattle.txn_types.specs.Session.{writes_of}
use Rattle.regular_records.specs.Holding.{Holds}
use Rattle.own_writes.specs.Accepted.{all_accepted}
use Rattle.own_writes.specs.Numbered.{numbered}
use Rattle.own_writes.specs.declared.accepted.Accepted.{Accepted as Kept}

abbrev pub written : List Kept → List Written
written items = writes_of (all_accepted items)

-- these are the versions of the first n writes
abbrev pub IsIndexed : List Version → ℕ → List Kept → Type 0
IsIndexed kept n items = ∥ Holds kept (numbered 0 (written (take n items))) ∥₁
